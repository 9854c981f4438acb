use Rattle.vp_flow.specs.Filled.{row_at}
use Rattle.vp_flow.proofs.Whole.{IsFlow-assembled, sizes-of, fits-of, row-of}
use Rattle.vp_flow.proofs.rates.Rates.flow.Goals as goal

pub assembled-requires-clause-sizes : goal.assembled-requires-clause-sizes
assembled-requires-clause-sizes c = sizes-of c.args.self.now c.args.state c.args.height c.get-parts.result.now (row_at c.args.series.now c.args.state) (row-of c.args.series.now c.args.state c.get-parts.result.now c.index-series-state.result c.requires.state c.get-parts.ensures c.index-series-state.is) c.requires.series

pub assembled-requires-clause-fits : goal.assembled-requires-clause-fits
assembled-requires-clause-fits c = fits-of c.args.self.now c.args.state c.args.height c.get-parts.result.now (row_at c.args.series.now c.args.state) c.args.weight c.requires.common (row-of c.args.series.now c.args.state c.get-parts.result.now c.index-series-state.result c.requires.state c.get-parts.ensures c.index-series-state.is) c.requires.series c.requires.weight c.requires.fits

pub returns : goal.returns
returns c = λ h same. IsFlow-assembled c.args.self.now c.args.state c.args.height c.get-parts.result.now (row_at c.args.series.now c.args.state) c.in_ok-poly.poly c.args.weight (row-of c.args.series.now c.args.state c.get-parts.result.now c.index-series-state.result c.requires.state c.get-parts.ensures c.index-series-state.is) c.requires.series c.requires.weight c.requires.fits c.in_ok-poly.ensures.sum c.in_ok-poly.ensures.canonical h same
