-- Single writes of cells, and blocks.
use Rattle.std.proofs.Common.{◌≡◌, ◌≢◌, ℕ, ◌<◌, ◌≤◌, List, [], ◌∷◌, ◌++◌, length, refl, ap, ◌∙◌, arith, get_or-set_same, get_or-set_other}
use Rattle.std.specs.Prelude.{ℤ, pos, slice_set}
use Rattle.std.proofs.Math.ListN.{length-set}
use Rattle.vp_isa.specs.declared.instr.Instr.{Instr}
use Rattle.vp_interval.specs.Rounding.{Ends}
use Rattle.vp_isa.specs.Machine.{cell}
use Rattle.vp_isa.specs.Block.{after}
use Rattle.vp_layout.specs.Cells.{Keeps, Leaves}

-- a block after another
pub after-append : (a b : List Instr) (c : List ℤ) → after (a ++ b) c ≡ after b (after a c)
after-append [] b c = refl
after-append (i ∷ a) b c = after-append a b _

-- only cell d has changed, to z
pub record Wrote (d : ℕ) (z : ℤ) (c c' : List ℤ) : Type 0 where
  pub same_length : length c' ≡ length c
  pub here : cell c' d ≡ z
  pub others : (i : ℕ) → i ≢ d → cell c' i ≡ cell c i

pub wrote : (c : List ℤ) (d : ℕ) (z : ℤ) → d < length c → Wrote d z c (slice_set c d z)
wrote c d z h = record {
  same_length = length-set c d z;
  here = get_or-set_same c d z (pos 0) h;
  others = λ i ne. get_or-set_other c d i z (pos 0) ne;
}

pub keeps_all : (d : ℕ) (c : List ℤ) → Keeps d c c
keeps_all d c = record { same_length = refl; below = λ i h. refl }

pub keeps_on : (d : ℕ) (a b c : List ℤ) → Keeps d a b → Keeps d b c → Keeps d a c
keeps_on d a b c f g = record {
  same_length = g.same_length ∙ f.same_length;
  below = λ i h. g.below i h ∙ f.below i h;
}

pub keeps_fewer : (d e : ℕ) (a b : List ℤ) → d ≤ e → Keeps e a b → Keeps d a b
keeps_fewer d e a b le k = record { same_length = k.same_length; below = λ i h. k.below i (omega arith) }

-- after a block that keeps more cells, with the interval known by another name
pub leaves_from : (c c1 c2 : List ℤ) (d e : ℕ) (v w : Ends) → d ≤ e → Keeps e c c1 → Leaves d v c1 c2 → v ≡ w → Leaves d w c c2
leaves_from c c1 c2 d e v w le k l same = record {
  low = l.low ∙ ap (λ x. x.lo) same;
  high = l.high ∙ ap (λ x. x.hi) same;
  keeps = keeps_on d c c1 c2 (keeps_fewer d e c c1 le k) l.keeps;
}
