-- In which boxes the values of a history stand where a record is tested, and behind the reply.
use Rattle.std.proofs.Common.{◌≡◌, ℕ, suc, ◌+◌, ◌*◌, IsTrue, List, length, take, Some, sym, ap, ◌∙◌, subst, arith, pos}
use Rattle.std.specs.Prelude.{ℤ, Bool, slice_index_or}
use Rattle.std.proofs.lemmas.Bool.{ltb-true}
use Rattle.std.proofs.lemmas.List.{get_or-drop, get_or-take}
use Rattle.vp_words.specs.declared.record.Counts.{Counts}
use Rattle.vp_words.specs.declared.record.Kind.TheVariants.{Init, Choice, Sense}
use Rattle.vp_words.specs.declared.record.Reply.TheVariants as reply
use Rattle.vp_words.specs.Record.{IsValid, field_count}
use Rattle.vp_terms.specs.Control.{Values, changing}
use Rattle.vp_terms.specs.Meaning.{Assignment}
use Rattle.vp_terms.specs.Places.{has_variable}
use Rattle.vp_terms.specs.Rational.{Rational, whole}
use Rattle.vp_terms.specs.declared.expr.Var.{Var}
use Rattle.vp_terms.specs.declared.expr.Var.TheVariants.{Param, State, Control, NextState, NextControl, Tau}
use Rattle.vp_poly.specs.Places.{places_for}
use Rattle.vp_interval.specs.Represents.{Represents}
use Rattle.vp_interval.specs.Rounding.{Ends}
use Rattle.vp_sandbox.specs.Boxes.{box_after, box_at, box_tested, pair_at, tested, word_at}
use Rattle.vp_history.specs.History.{History, IsInBoxes, Now, first, first_controls, values_of}
use Rattle.vp_history.proofs.Known.{Known}
use Rattle.vp_history.proofs.Points.{Holds}

-- a box that is given represents what it was given for
given : (b d : Ends) (q : Rational) → Some b ≡ Some d → Represents b q → Represents d q
given b d q e r = let f : b ≡ d = cc in subst (λ (v : Ends). Represents v q) f r

-- the values of an init record; the others keep theirs
abbrev pub behind_init : Counts → History → List ℤ → Assignment → Assignment
behind_init c h words a = changing h.params (h.states 0) (first_controls c words) (λ i. a (NextControl i)) (a Tau) (λ i. a (NextState i))

module _ (known : Known) (c : Counts) (valid : IsValid c) (h : History) (boxes : List Ends) (words : List ℤ) (size : length boxes ≡ 32) where
  pub init_holds : (a : Assignment) → length words ≡ field_count Init c → Holds c boxes a → IsInBoxes c h Init words first → Holds c (tested c Init words boxes) (behind_init c h words a)
  init_holds a count old here = record { each = λ v b l e. by v b l (sym (known.set.before c boxes valid size Init words count v l) ∙ e) }
    where
      by : (v : Var) (b : Ends) → IsTrue (has_variable (places_for c) v) → box_tested c Init words boxes v ≡ Some b → Represents b (behind_init c h words a v)
      by (Param i) b l e =
          let z : 0 + i ≡ i = omega arith in
          given (pair_at words i) b (h.params i) e (subst (λ (k : ℕ). Represents (pair_at words k) (h.params i)) z (here.0.each i (ltb-true i c.params l)))
      by (State i) b l e = given (pair_at words (c.params + i)) b (h.states 0 i) e (here.1.each i (ltb-true i c.states l))
      by (Control i) b l e =
          let n = 2 * (c.params + c.states) in
          given (word_at words (n + i)) b (first_controls c words i) e
          (subst (λ (q : Rational). Represents (word_at words (n + i)) q) (ap whole (sym (get_or-drop n words i (pos 0)))) (known.represented.word (slice_index_or words (n + i) (pos 0))))
      by (NextState i) b l e = old.each (NextState i) b l e
      by (NextControl i) b l e = old.each (NextControl i) b l e
      by Tau b l e = old.each Tau b l e

  pub choice_holds : (p x u v y : Values) (t : Rational) → length words ≡ field_count Choice c → Holds c boxes (changing p x u v t y) → Holds c (tested c Choice words boxes) (changing p x u (values_of words) t y)
  choice_holds p x u v y t count old = record { each = λ w b l e. by w b l (sym (known.set.before c boxes valid size Choice words count w l) ∙ e) }
    where
      by : (w : Var) (b : Ends) → IsTrue (has_variable (places_for c) w) → box_tested c Choice words boxes w ≡ Some b → Represents b (changing p x u (values_of words) t y w)
      by (Param i) b l e = old.each (Param i) b l e
      by (State i) b l e = old.each (State i) b l e
      by (Control i) b l e = old.each (Control i) b l e
      by (NextState i) b l e = old.each (NextState i) b l e
      by (NextControl i) b l e = given (word_at words i) b (values_of words i) e (known.represented.word (slice_index_or words i (pos 0)))
      by Tau b l e = old.each Tau b l e

  pub sense_holds : (now : Now) (p x u v y : Values) (t : Rational) → length words ≡ field_count Sense c → Holds c boxes (changing p x u v t y) → IsInBoxes c h Sense words now
      → Holds c (tested c Sense words boxes) (changing p x u v (h.times (now.sensing + 1)) (h.states (now.sensing + 1)))
  sense_holds now p x u v y t count old here = record { each = λ w b l e. by w b l (sym (known.set.before c boxes valid size Sense words count w l) ∙ e) }
    where
      by : (w : Var) (b : Ends) → IsTrue (has_variable (places_for c) w) → box_tested c Sense words boxes w ≡ Some b → Represents b (changing p x u v (h.times (now.sensing + 1)) (h.states (now.sensing + 1)) w)
      by (Param i) b l e = old.each (Param i) b l e
      by (State i) b l e = old.each (State i) b l e
      by (Control i) b l e = old.each (Control i) b l e
      by (NextState i) b l e =
          let z : 1 + i ≡ suc i = omega arith in
          given (pair_at words (suc i)) b (h.states (now.sensing + 1) i) e (subst (λ (k : ℕ). Represents (pair_at words k) (h.states (now.sensing + 1) i)) z (here.1.each i (ltb-true i c.states l)))
      by (NextControl i) b l e = old.each (NextControl i) b l e
      by Tau b l e = given (pair_at words 0) b (h.times (now.sensing + 1)) e here.0

-- ---- behind the reply

-- an act gives the controls its words
pub acted_holds : Known → (c : Counts) (boxes next : List Ends) (acted : List ℤ) (fallback : Bool) (p x u v y : Values) (t : Rational) → Holds c boxes (changing p x u v t y)
    → ((w : Var) → IsTrue (has_variable (places_for c) w) → box_at c next w ≡ box_after c Choice (reply.Act acted c.controls fallback) boxes w)
    → Holds c next (changing p x (values_of (take c.controls acted)) v t y)
acted_holds known c boxes next acted fallback p x u v y t old set = record { each = λ w b l e. by w b l (sym (set w l) ∙ e) }
  where
    by : (w : Var) (b : Ends) → IsTrue (has_variable (places_for c) w) → box_after c Choice (reply.Act acted c.controls fallback) boxes w ≡ Some b → Represents b (changing p x (values_of (take c.controls acted)) v t y w)
    by (Param i) b l e = old.each (Param i) b l e
    by (State i) b l e = old.each (State i) b l e
    by (Control i) b l e =
        given (word_at acted i) b (values_of (take c.controls acted) i) e
        (subst (λ (q : Rational). Represents (word_at acted i) q) (ap whole (sym (get_or-take c.controls acted i (pos 0) (ltb-true i c.controls l)))) (known.represented.word (slice_index_or acted i (pos 0))))
    by (NextState i) b l e = old.each (NextState i) b l e
    by (NextControl i) b l e = old.each (NextControl i) b l e
    by Tau b l e = old.each Tau b l e

-- a sensing answered `ok` gives the states the new ones
pub sensed_holds : (c : Counts) (boxes next : List Ends) (p x u v y : Values) (t : Rational) → Holds c boxes (changing p x u v t y)
    → ((w : Var) → IsTrue (has_variable (places_for c) w) → box_at c next w ≡ box_after c Sense reply.Ok boxes w) → Holds c next (changing p y u v t y)
sensed_holds c boxes next p x u v y t old set = record { each = λ w b l e. by w b l (sym (set w l) ∙ e) }
  where
    by : (w : Var) (b : Ends) → IsTrue (has_variable (places_for c) w) → box_after c Sense reply.Ok boxes w ≡ Some b → Represents b (changing p y u v t y w)
    by (Param i) b l e = old.each (Param i) b l e
    by (State i) b l e = old.each (NextState i) b l e
    by (Control i) b l e = old.each (Control i) b l e
    by (NextState i) b l e = old.each (NextState i) b l e
    by (NextControl i) b l e = old.each (NextControl i) b l e
    by Tau b l e = old.each Tau b l e
