use Rattle.vp_read.proofs.GoodPackages.{good_package}
use Rattle.vp_read.proofs.PartLaws.{package_certificates}
use Rattle.vp_read.proofs.laws.packages_are_well_formed.Goals as goal

pub returns : goal.returns
returns c = record {
  packages = good_package (record {
    conditions = c.good_formulas.ensures.conditions;
    sizes = c.good_formulas.ensures.sizes;
    controllers = c.good_controllers.ensures.controllers;
    controller_sizes = c.good_controllers.ensures.sizes;
    rates = c.good_entries.ensures.rates;
    settings = c.good_entries.ensures.settings;
    bounds = c.good_bounds.ensures;
    times = c.good_times.ensures;
    certificates = c.good_certificates.ensures.variables;
  });
  certificates = package_certificates (record { whole = c.numbers_are_written.ensures.whole; form = c.good_certificates.ensures.form });
}
