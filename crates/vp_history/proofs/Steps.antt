-- One record: what it says of a history, and where the history then stands.
use Rattle.std.proofs.Common.{◌≡◌, ℕ, zero, suc, ◌+◌, ◌*◌, ◌≤◌, Bool, true, false, IsTrue, List, [], ◌∷◌, length, map, take, drop, Option, None, Some, refl, sym, ap, ◌∙◌, subst, arith, pos}
use Rattle.std.specs.Prelude.{ℤ, All, slice_get, if◌then◌else◌}
use Rattle.std.specs.Option.{option_map}
use Rattle.std.specs.Ordering.{int_eq}
use Rattle.std.proofs.lemmas.Int.{ints}
use Rattle.std.proofs.lemmas.List.{get_or_past, length-drop, take-append-le}
use Rattle.std.proofs.Math.Seq.{take-length}
use Rattle.vp_words.specs.declared.record.Due.{Due}
use Rattle.vp_words.specs.declared.record.Due.TheVariants as due
use Rattle.vp_words.specs.declared.record.Kind.{Kind}
use Rattle.vp_words.specs.declared.record.Kind.TheVariants as kind
use Rattle.vp_words.specs.declared.record.Reply.TheVariants as reply
use Rattle.vp_words.specs.declared.record.Why.TheVariants as why
use Rattle.vp_words.specs.Exchanges.{IsRecordOf}
use Rattle.vp_words.specs.Record.{padded}
use Rattle.vp_terms.specs.Control.{AgreeFrom, Values, changing}
use Rattle.vp_terms.specs.Meaning.{Assignment}
use Rattle.vp_terms.specs.Model.{IsInductive, Model}
use Rattle.vp_terms.specs.Places.{has_variable}
use Rattle.vp_terms.specs.Rational.{Rational, Equals, whole}
use Rattle.vp_terms.specs.declared.expr.Var.{Var}
use Rattle.vp_terms.specs.declared.expr.Var.TheVariants.{NextState, NextControl, Tau}
use Rattle.vp_terms.proofs.RationalLaws.{Equals-sym}
use Rattle.vp_poly.specs.declared.mono.Term.{Term}
use Rattle.vp_poly.specs.Places.{AreBelow, places_for}
use Rattle.vp_poly.specs.Value.{Point, value_at}
use Rattle.vp_logic.specs.Tree.{tree}
use Rattle.vp_logic.specs.Truth.{tree_holds}
use Rattle.vp_interval.specs.declared.truth.Truth.{Truth}
use Rattle.vp_interval.specs.declared.truth.Truth.TheVariants.{No, Maybe, Yes}
use Rattle.vp_interval.specs.Formula.{FormFits, PartsFit, first_from, truth, truths}
use Rattle.vp_interval.specs.Polynomial.{AreSmall, interval_of}
use Rattle.vp_interval.specs.Represents.{AreValid, RepresentEach}
use Rattle.vp_interval.specs.Rounding.{Ends}
use Rattle.vp_sandbox.specs.declared.sandbox.Sandbox.{Sandbox}
use Rattle.vp_sandbox.specs.Answer.{Answered, acted, answered, choice_verdict, fallback_verdict, init_verdict, is_unknown, sense_verdict}
use Rattle.vp_sandbox.specs.Boxes.{box_after, box_at, point_words, tested}
use Rattle.vp_sandbox.specs.Fits.{Fits}
use Rattle.vp_history.specs.Allowed.{Allows, Denies}
use Rattle.vp_history.specs.History.{History, IsInBoxes, Now, StandsIn, after, first_controls, values_of}
use Rattle.vp_history.specs.Means.{AreValues, Means}
use Rattle.vp_history.proofs.Boxed.{acted_holds, behind_init, choice_holds, init_holds, sense_holds, sensed_holds}
use Rattle.vp_history.proofs.Known.{Known}
use Rattle.vp_history.proofs.Points.{Holds, Shown, shown}
use Rattle.vp_history.proofs.Telling.{named_fails, none_named, told_yes}

-- ---- words as values

past : (words : List ℤ) (k : ℕ) → length words ≤ k → values_of words k ≡ whole (pos 0)
past words k h = ap whole (get_or_past words k (pos 0) h)

-- the words that an act shows are those that are actuated
front_of : (n : ℕ) (words : List ℤ) → length words ≡ n → take n (padded 16 words) ≡ words
front_of n words e =
    let P : ℕ → Type 0 = λ k. take k (padded 16 words) ≡ words in
    subst P e (take-append-le (length words) words _ (omega arith) ∙ take-length words)

agree_past : (n : ℕ) (u : Values) (words : List ℤ) → length words ≡ n → ((k : ℕ) → n ≤ k → u k ≡ whole (pos 0)) → AgreeFrom n u (values_of words)
agree_past n u words e h = λ k l. let r : u k ≡ values_of words k = h k l ∙ sym (past words k (omega arith)) in subst (Equals (u k)) r (record { crossed = refl })

-- ---- the fallback's words

same_ends : (a b : ℤ) → int_eq a b ≡ true → a ≡ b
same_ends a b h = grind (arith, ints)

-- one word for each polynomial, which is its value
record AreTheValues (ps : List (List Term)) (z : Point) (words : List ℤ) : Type 0 where
  count : length words ≡ length ps
  values : AreValues ps z (values_of words)

module _ (known : Known) (boxes : List Ends) (z : Point) (valid : AreValid boxes) (held : RepresentEach boxes z) where
  -- where the interval of a polynomial has equal ends they are its value
  one_value : (p : List Term) → AreBelow (length boxes) p → AreSmall p → int_eq (interval_of boxes p).lo (interval_of boxes p).hi ≡ true → Equals (whole (interval_of boxes p).lo) (value_at p z)
  one_value p below small e =
      let v = interval_of boxes p in
      Equals-sym _ _ (known.represented.value v (value_at p z) (known.represented.valid boxes p valid below small) (same_ends v.lo v.hi e) (known.represented.values boxes p z valid held below small))

  next_value : (p : List Term) (ps : List (List Term)) (o : Option (List ℤ)) (words : List ℤ) → Equals (whole (interval_of boxes p).lo) (value_at p z)
      → ((ws : List ℤ) → o ≡ Some ws → AreTheValues ps z ws) → option_map (λ ws. (interval_of boxes p).lo ∷ ws) o ≡ Some words → AreTheValues (p ∷ ps) z words
  next_value p ps None words one more e = absurd cc
  next_value p ps (Some ws) words one more e =
      let m = more ws refl in
      let q : (interval_of boxes p).lo ∷ ws ≡ words = cc in
      subst (AreTheValues (p ∷ ps) z) q (record { count = ap suc m.count; values = record { each = λ k r f. at k r f } })
    where
      at : (k : ℕ) (r : List Term) → slice_get (p ∷ ps) k ≡ Some r → Equals (values_of ((interval_of boxes p).lo ∷ ws) k) (value_at r z)
      at zero r f = let g : p ≡ r = cc in subst (λ (q : List Term). Equals (whole (interval_of boxes p).lo) (value_at q z)) g one
      at (suc k) r f = (more ws refl).values.each k r f

  by_ends : (p : List Term) (ps : List (List Term)) (same : Bool) (words : List ℤ) → (same ≡ true → Equals (whole (interval_of boxes p).lo) (value_at p z))
      → ((ws : List ℤ) → point_words (map (interval_of boxes) ps) ≡ Some ws → AreTheValues ps z ws)
      → (if same then option_map (λ ws. (interval_of boxes p).lo ∷ ws) (point_words (map (interval_of boxes) ps)) else None) ≡ Some words → AreTheValues (p ∷ ps) z words
  by_ends p ps true words one more e = next_value p ps (point_words (map (interval_of boxes) ps)) words (one refl) more e
  by_ends p ps false words one more e = absurd cc

  fallback_values : (ps : List (List Term)) (words : List ℤ) → All (λ p. AreBelow (length boxes) p) ps → All (λ p. AreSmall p) ps → point_words (map (interval_of boxes) ps) ≡ Some words → AreTheValues ps z words
  fallback_values [] words below small e = let q : [] ≡ words = cc in subst (AreTheValues [] z) q (record { count = refl; values = record { each = λ k p f. absurd cc } })
  fallback_values (p ∷ ps) words below small e =
      by_ends p ps (int_eq (interval_of boxes p).lo (interval_of boxes p).hi) words
      (one_value p (below zero p (omega arith)) (small zero p (omega arith)))
      (λ ws f. fallback_values ps ws (λ k d l. below (suc k) d (omega arith)) (λ k d l. small (suc k) d (omega arith)) f) e

-- ---- where a history stands, and one record

module _ (s : Sandbox) (m : Model) (h : History) where
  -- the values of the history stand in the boxes
  pub record Stands (now : Now) (boxes : List Ends) : Type 0 where
    v : Values
    y : Values
    t : Rational
    holds : Holds s.counts boxes (changing h.params (h.states now.sensing) now.controls v t y)
    others : (k : ℕ) → s.counts.controls ≤ k → now.controls k ≡ whole (pos 0)

  -- before the init record any values do
  abbrev pub Ready : Due → Now → List Ends → Type 0
  Ready due.Init now boxes = (a : Assignment) × Holds s.counts boxes a
  Ready due.Choice now boxes = Stands now boxes
  Ready due.Sense now boxes = Stands now boxes
  Ready due.Ended now boxes = Unit {0}

  -- the invariant holds where a choice is due, and where a sensing is due the controller led from where it holds
  abbrev pub Keeps : Due → Now → Type 0
  Keeps due.Init now = Unit {0}
  Keeps due.Choice now = m.inv h.params (h.states now.sensing) now.controls
  Keeps due.Sense now = (u : Values) × m.inv h.params (h.states now.sensing) u × m.ctrl h.params (h.states now.sensing) u now.controls
  Keeps due.Ended now = Unit {0}

  -- what one record says of a history that it represents, and that the history stands in the boxes behind it
  pub record Step (d : Due) (kind : Kind) (words : List ℤ) (now : Now) (answer : Answered) : Type 0 where
    pub denies : Denies m s.counts h kind words answer.reply now
    pub allows : IsInductive m → Keeps d now → Allows m s.counts h kind words answer.reply now × Keeps answer.next.due (after s.counts kind words answer.reply now)
    pub ready : Ready answer.next.due (after s.counts kind words answer.reply now) answer.next.boxes

  -- the boxes behind the reply, by variables
  abbrev Behind : Kind → List Ends → Answered → Type 0
  Behind kind boxes answer = (w : Var) → IsTrue (has_variable (places_for s.counts) w) → box_at s.counts answer.next.boxes w ≡ box_after s.counts kind answer.reply boxes w

  module _ (known : Known) (fits : Fits s) (means : Means s m) (now : Now) (old : List Ends) (words : List ℤ) (size : length old ≡ 32) (valid : AreValid old) where
    -- ---- the init record

    module _ (a : Assignment) (stood : Holds s.counts old a) (rec : IsRecordOf s.counts kind.Init words) where
      abbrev init_boxes : List Ends
      init_boxes = tested s.counts kind.Init words old

      init_fits : PartsFit (length init_boxes) (map tree s.init)
      init_fits = subst (λ (n : ℕ). PartsFit n (map tree s.init)) (sym (known.keeps.size_tested s.counts kind.Init words old ∙ size)) (known.fits.init s fits)

      init_valid : AreValid init_boxes
      init_valid = known.keeps.before s.counts kind.Init words old rec valid

      init_shown : IsInBoxes s.counts h kind.Init words now → Holds s.counts init_boxes (behind_init s.counts h words a) × Shown s.counts init_boxes (behind_init s.counts h words a)
      init_shown here =
          let holds = init_holds known s.counts fits.counts h old words size a rec.count stood here in
          (holds, shown known s.counts init_boxes (behind_init s.counts h words a) init_valid holds)

      init_denies : (k : ℕ) (t : Truth) → first_from 1 (truths init_boxes (map tree s.init)) ≡ Some (k, t) → Denies m s.counts h kind.Init words (reply.Violation (why.Init k (is_unknown t))) now
      init_denies k No e = λ here i.
          let z = (init_shown here).1 in
          named_fails known.truthful init_boxes z.at init_valid z.held (map tree s.init) k init_fits e
          ((means.init z.at h.params (h.states 0) (first_controls s.counts words) (λ j. a (NextControl j)) (λ j. a (NextState j)) (a Tau) z.is_at).1 i)
      init_denies k Maybe e = tt
      init_denies k Yes e = absurd ((known.truthful.some (truths init_boxes (map tree s.init)) k Yes e).not_yes refl)

      init_by : (o : Option (ℕ × Truth)) → first_from 1 (truths init_boxes (map tree s.init)) ≡ o → StandsIn s.counts h kind.Init words (init_verdict init_boxes o).reply now
          → Step due.Init kind.Init words now (init_verdict init_boxes o)
      init_by (Some r) e here = record { denies = init_denies r.0 r.1 e; allows = λ ind k. (tt, tt); ready = tt }
      init_by None e here =
          let u = first_controls s.counts words in
          let z = init_shown here in
          let i : m.init h.params (h.states 0) u =
          (means.init z.1.at h.params (h.states 0) u (λ j. a (NextControl j)) (λ j. a (NextState j)) (a Tau) z.1.is_at).0 (none_named known.truthful init_boxes z.1.at init_valid z.1.held (map tree s.init) init_fits e) in
          record {
            denies = tt;
            allows = λ ind k. let inv = ind.starts h.params (h.states 0) u i in ((i, ind.is_safe h.params (h.states 0) u inv), inv);
            ready = record {
              v = λ j. a (NextControl j);
              y = λ j. a (NextState j);
              t = a Tau;
              holds = z.0;
              others = λ k l. past (drop (2 * (s.counts.params + s.counts.states)) words) k (let n = length-drop (2 * (s.counts.params + s.counts.states)) words in let c = rec.count in omega arith);
            };
          }

      pub init_step : StandsIn s.counts h kind.Init words (answered s (record { boxes = old; due = due.Init }) words).reply now → Step due.Init kind.Init words now (answered s (record { boxes = old; due = due.Init }) words)
      init_step here = init_by _ refl here

    -- ---- a choice

    module _ (stood : Stands now old) (rec : IsRecordOf s.counts kind.Choice words) where
      abbrev choice_boxes : List Ends
      choice_boxes = tested s.counts kind.Choice words old

      chosen_holds : Holds s.counts choice_boxes (changing h.params (h.states now.sensing) now.controls (values_of words) stood.t stood.y)
      chosen_holds = choice_holds known s.counts fits.counts h old words size h.params (h.states now.sensing) now.controls stood.v stood.y stood.t rec.count stood.holds

      choice_valid : AreValid choice_boxes
      choice_valid = known.keeps.before s.counts kind.Choice words old rec valid

      -- the controller led to the actuated words
      Leads : List ℤ → Type 0
      Leads acts = IsInductive m → m.inv h.params (h.states now.sensing) now.controls → m.ctrl h.params (h.states now.sensing) now.controls (values_of acts)

      acted_step : (acts : List ℤ) (fallback : Bool) → length acts ≡ s.counts.controls → Behind kind.Choice choice_boxes (acted s choice_boxes acts fallback) → Leads acts
          → Step due.Choice kind.Choice words now (acted s choice_boxes acts fallback)
      unfolding Leads
      acted_step acts fallback count behind leads =
          let n = s.counts.controls in
          let shown_words = padded 16 acts in
          let front : take n shown_words ≡ acts = front_of n acts count in
          let P : List ℤ → Type 0 = λ ws. m.ctrl h.params (h.states now.sensing) now.controls (values_of ws) in
          let Q : List ℤ → Type 0 = λ ws. (k : ℕ) → n ≤ k → values_of ws k ≡ whole (pos 0) in
          record {
            denies = tt;
            allows = λ ind inv. let c = subst P (sym front) (leads ind inv) in (c, (now.controls, inv, c));
            ready = record {
              v = values_of words;
              y = stood.y;
              t = stood.t;
              holds = acted_holds known s.counts choice_boxes (acted s choice_boxes acts fallback).next.boxes shown_words fallback h.params (h.states now.sensing) now.controls (values_of words) stood.y stood.t chosen_holds behind;
              others = subst Q (sym front) (λ k l. past acts k (omega arith));
            };
          }

      fallback_by : (o : Option (List ℤ)) → point_words (map (interval_of old) s.fallback) ≡ o → Behind kind.Choice choice_boxes (fallback_verdict s choice_boxes o) → Step due.Choice kind.Choice words now (fallback_verdict s choice_boxes o)
      unfolding Leads
      fallback_by None e behind = record { denies = tt; allows = λ ind k. (tt, tt); ready = tt }
      fallback_by (Some acts) e behind =
          let p = h.params in
          let x = h.states now.sensing in
          let u = now.controls in
          let z = shown known s.counts old (changing p x u stood.v stood.t stood.y) valid stood.holds in
          let below = subst (λ (n : ℕ). All (λ q. AreBelow n q) s.fallback) (sym size) (known.fits.places s fits) in
          let found = fallback_values known old z.at valid z.held s.fallback acts below (known.fits.small s fits) e in
          let count : length acts ≡ s.counts.controls = found.count ∙ fits.fallback_count in
          let falls = (means.fallback z.at p x u stood.v stood.y (values_of acts) stood.t z.is_at (agree_past s.counts.controls u acts count stood.others)).0 found.values in
          acted_step acts true count behind (λ ind inv. ind.falls_back p x u (values_of acts) inv falls)

      choice_by : (t : Truth) → truth choice_boxes (tree s.ctrl) ≡ t → Behind kind.Choice choice_boxes (choice_verdict s old choice_boxes words t) → Step due.Choice kind.Choice words now (choice_verdict s old choice_boxes words t)
      unfolding Leads
      choice_by No e behind = fallback_by _ refl behind
      choice_by Maybe e behind = fallback_by _ refl behind
      choice_by Yes e behind =
          let p = h.params in
          let x = h.states now.sensing in
          let u = now.controls in
          let z = shown known s.counts choice_boxes (changing p x u (values_of words) stood.t stood.y) choice_valid chosen_holds in
          let form : FormFits (length choice_boxes) (tree s.ctrl) = subst (λ (n : ℕ). FormFits n (tree s.ctrl)) (sym (known.keeps.size_tested s.counts kind.Choice words old ∙ size)) (known.fits.ctrl s fits) in
          let holds : tree_holds (tree s.ctrl) z.at ≡ true = told_yes (truth choice_boxes (tree s.ctrl)) (tree_holds (tree s.ctrl) z.at) e (known.truthful.one choice_boxes (tree s.ctrl) z.at choice_valid z.held form) in
          let leads = (means.ctrl z.at p x u (values_of words) stood.y stood.t z.is_at (agree_past s.counts.controls u words rec.count stood.others)).0 holds in
          acted_step words false rec.count behind (λ ind inv. leads)

      pub choice_step : Step due.Choice kind.Choice words now (answered s (record { boxes = old; due = due.Choice }) words)
      choice_step = choice_by _ refl (known.set.behind s (record { boxes = old; due = due.Choice }) kind.Choice words fits size refl rec.count)

    -- ---- a sensing

    module _ (stood : Stands now old) (rec : IsRecordOf s.counts kind.Sense words) where
      abbrev sense_boxes : List Ends
      sense_boxes = tested s.counts kind.Sense words old

      sense_fits : PartsFit (length sense_boxes) (map tree s.plant)
      sense_fits = subst (λ (n : ℕ). PartsFit n (map tree s.plant)) (sym (known.keeps.size_tested s.counts kind.Sense words old ∙ size)) (known.fits.plant s fits)

      sense_valid : AreValid sense_boxes
      sense_valid = known.keeps.before s.counts kind.Sense words old rec valid

      abbrev moved : Assignment
      moved = changing h.params (h.states now.sensing) now.controls stood.v (h.times (now.sensing + 1)) (h.states (now.sensing + 1))

      sense_shown : IsInBoxes s.counts h kind.Sense words now → Holds s.counts sense_boxes moved × Shown s.counts sense_boxes moved
      sense_shown here =
          let holds = sense_holds known s.counts fits.counts h old words size now h.params (h.states now.sensing) now.controls stood.v stood.y stood.t rec.count stood.holds here in
          (holds, shown known s.counts sense_boxes moved sense_valid holds)

      sense_denies : (k : ℕ) (t : Truth) → first_from 1 (truths sense_boxes (map tree s.plant)) ≡ Some (k, t) → Denies m s.counts h kind.Sense words (reply.Violation (why.Plant k (is_unknown t))) now
      sense_denies k No e = λ here i.
          let z = (sense_shown here).1 in
          named_fails known.truthful sense_boxes z.at sense_valid z.held (map tree s.plant) k sense_fits e
          ((means.plant z.at h.params (h.states now.sensing) now.controls stood.v (h.states (now.sensing + 1)) (h.times (now.sensing + 1)) z.is_at).1 i)
      sense_denies k Maybe e = tt
      sense_denies k Yes e = absurd ((known.truthful.some (truths sense_boxes (map tree s.plant)) k Yes e).not_yes refl)

      sense_by : (o : Option (ℕ × Truth)) → first_from 1 (truths sense_boxes (map tree s.plant)) ≡ o → Behind kind.Sense sense_boxes (sense_verdict s sense_boxes (drop 2 words) o)
          → StandsIn s.counts h kind.Sense words (sense_verdict s sense_boxes (drop 2 words) o).reply now → Step due.Sense kind.Sense words now (sense_verdict s sense_boxes (drop 2 words) o)
      sense_by (Some r) e behind here = record { denies = sense_denies r.0 r.1 e; allows = λ ind k. (tt, tt); ready = tt }
      sense_by None e behind here =
          let p = h.params in
          let x = h.states now.sensing in
          let u = now.controls in
          let y = h.states (now.sensing + 1) in
          let t = h.times (now.sensing + 1) in
          let z = sense_shown here in
          let step : m.plant p x u t y = (means.plant z.1.at p x u stood.v y t z.1.is_at).0 (none_named known.truthful sense_boxes z.1.at sense_valid z.1.held (map tree s.plant) sense_fits e) in
          record {
            denies = tt;
            allows = λ ind k. let inv = ind.kept p x k.0 u y t k.1 k.2 step in ((step, ind.is_safe p y u inv), inv);
            ready = record {
              v = stood.v;
              y = y;
              t = t;
              holds = sensed_holds s.counts sense_boxes (sense_verdict s sense_boxes (drop 2 words) None).next.boxes p x u stood.v y t z.0 behind;
              others = stood.others;
            };
          }

      pub sense_step : StandsIn s.counts h kind.Sense words (answered s (record { boxes = old; due = due.Sense }) words).reply now → Step due.Sense kind.Sense words now (answered s (record { boxes = old; due = due.Sense }) words)
      sense_step here = sense_by _ refl (known.set.behind s (record { boxes = old; due = due.Sense }) kind.Sense words fits size refl rec.count) here
