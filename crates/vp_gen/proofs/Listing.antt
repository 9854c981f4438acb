-- Lists of tests, one more at a time.
use Rattle.std.proofs.Common.{◌≡◌, ℕ, zero, suc, ◌+◌, ◌^◌, ◌<◌, ◌≤◌, List, [], ◌∷◌, ◌++◌, length, map, take, drop, get_or, Bool, Option, None, Some, refl, sym, ap, ◌∙◌, subst, arith, append_assoc, length-append}
use Rattle.std.specs.Prelude.{slice_get, slice_set, sum_by}
use Rattle.std.proofs.lemmas.List.{take_more, drop_more, take_all, length-map, length-take}
use Rattle.std.proofs.lemmas.List.Sums.{sum_by-cons}
use Rattle.std.proofs.Math.ListN.{get_or-map}
use Rattle.vp_isa.specs.declared.instr.Mon.{Mon}
use Rattle.vp_isa.specs.declared.instr.Mon.TheVariants.{Fallback}
use Rattle.vp_isa.specs.declared.instr.Instr.TheVariants.{Copy, Halt, Jeq}
use Rattle.vp_poly.specs.declared.mono.Term.{Term}
use Rattle.vp_poly.specs.Poly.{norm}
use Rattle.vp_logic.specs.Tree.{Tree}
use Rattle.vp_sandbox.specs.Sizes.{form_size, poly_size}
use Rattle.vp_emit.specs.Draft.{Draft}
use Rattle.vp_layout.specs.declared.home.Home.{Home}
use Rattle.vp_layout.specs.Truths.{need, IsSmall, AllNeed, AllSmall, SmallPolys}
use Rattle.vp_gen.specs.FormCode.{form_code}
use Rattle.vp_gen.specs.PolyCode.{poly_code}
use Rattle.vp_layout.specs.Blocks.{yes_code}
use Rattle.vp_gen.specs.CheckCode.{check_code, checks_code}
use Rattle.vp_gen.specs.SandboxCode.{same_code, word_code, words_code}
use Rattle.vp_layout.specs.Drafts.{Appends, HasRoom}
use Rattle.vp_gen.proofs.Sizes.{length-form, length-poly}
use Rattle.vp_layout.proofs.Drafts.{appends_on, first_label, nil_right, one_placed, room_after, fewer_room}

pub same_made : (a b : Draft) (same f : ℕ) → same ≡ length a.places
    → let p2 = (a.pushed ++ Jeq 84 85 same ∷ []) ++ Halt Fallback ∷ [] in
    b ≡ record { counts = a.counts; pushed = p2 ++ Copy f 84 ∷ []; places = slice_set (a.places ++ None ∷ []) same (Some (length p2)) }
    → Appends a b (λ p. same_code p f)
same_made a b same f e g =
    let n = length a.pushed in
    let l = length a.places in
    let p2 = (a.pushed ++ Jeq 84 85 same ∷ []) ++ Halt Fallback ∷ [] in
    let l2 : length p2 ≡ n + 2 = simp length-append (omega arith) in
    let none : Option ℕ = None in
    record {
      added = Jeq 84 85 l ∷ Halt Fallback ∷ Copy f 84 ∷ [];
      labels = Some (n + 2) ∷ [];
      counts = ap (λ (s : Draft). s.counts) g;
      pushed = ap (λ (s : Draft). s.pushed) g ∙ rw e (simp append_assoc);
      places = ap (λ (s : Draft). s.places) g ∙ rw l2 (rw e (one_placed a.places none (Some (n + 2))));
      few = omega arith;
      own = λ front more s.
          let one : slice_get (front ++ Some (n + 2) ∷ more) l ≡ Some (Some (n + 2)) = first_label front l (Some (n + 2)) more (sym s) in
          record { code_is = rw one refl; placed = rw one refl };
    }

checks_more : (p : ℕ) (mon : ℕ → Bool → Mon) (k : ℕ) (ns : List Tree) (n : Tree) (hs : List Home)
    → checks_code p 84 mon k (ns ++ n ∷ []) hs ≡ checks_code p 84 mon k ns hs ++ check_code (p + length (checks_code p 84 mon k ns hs)) 84 (mon (k + length ns)) n hs
checks_more p mon k [] n hs =
    let here : p ≡ p + 0 = omega arith in
    let same : k ≡ k + 0 = omega arith in
    nil_right (check_code p 84 (mon k) n hs) ∙ ap (λ q. check_code q 84 (mon k) n hs) here ∙ ap (λ j. check_code (p + 0) 84 (mon j) n hs) same
checks_more p mon k (m ∷ ns) n hs =
    let one = check_code p 84 (mon k) m hs in
    let q = p + length one in
    let rest = checks_code q 84 mon (suc k) ns hs in
    let at : q + length rest ≡ p + length (one ++ rest) = omega (arith, length-append one rest) in
    let number : suc k + length ns ≡ k + suc (length ns) = omega arith in
    ap (λ is. one ++ is) (checks_more q mon (suc k) ns n hs)
    ∙ sym (append_assoc one rest (check_code (q + length rest) 84 (mon (suc k + length ns)) n hs))
    ∙ ap (λ a. (one ++ rest) ++ check_code a 84 (mon (suc k + length ns)) n hs) at
    ∙ ap (λ j. (one ++ rest) ++ check_code (p + length (one ++ rest)) 84 (mon j) n hs) number

words_more : (p f : ℕ) (qs : List (List Term)) (q : List Term) (hs : List Home)
    → words_code p f (qs ++ q ∷ []) hs ≡ words_code p f qs hs ++ word_code (p + length (words_code p f qs hs)) (f + length qs) q hs
words_more p f [] q hs =
    let here : p ≡ p + 0 = omega arith in
    let same : f ≡ f + 0 = omega arith in
    nil_right (word_code p f q hs) ∙ ap (λ a. word_code a f q hs) here ∙ ap (λ g. word_code (p + 0) g q hs) same
words_more p f (r ∷ qs) q hs =
    let one = word_code p f r hs in
    let a = p + length one in
    let rest = words_code a (f + 1) qs hs in
    let at : a + length rest ≡ p + length (one ++ rest) = omega (arith, length-append one rest) in
    let number : f + 1 + length qs ≡ f + suc (length qs) = omega arith in
    ap (λ is. one ++ is) (words_more a (f + 1) qs q hs)
    ∙ sym (append_assoc one rest (word_code (a + length rest) (f + 1 + length qs) q hs))
    ∙ ap (λ b. (one ++ rest) ++ word_code b (f + 1 + length qs) q hs) at
    ∙ ap (λ g. (one ++ rest) ++ word_code (p + length (one ++ rest)) g q hs) number

length-check : (p : ℕ) (mon : Bool → Mon) (n : Tree) (hs : List Home) → length (check_code p 84 mon n hs) ≤ form_size n + 8
length-check p mon n hs =
    let form = form_code 84 n hs in
    omega (arith, length-append form (yes_code (p + length form) 84 mon), length-form n 84 hs)

length-word : (p f : ℕ) (q : List Term) (hs : List Home) → length (word_code p f q hs) ≤ poly_size q + 6
length-word p f q hs =
    let block = poly_code 84 q hs in
    omega (arith, length-append block (same_code (p + length block) f), length-poly 84 q hs)

-- the first i tests are there, and there is room for the others
pub record Checked (a b : Draft) (mon : ℕ → Bool → Mon) (ts : List Tree) (hs : List Home) (i : ℕ) : Type 0 where
  pub appends : Appends a b (λ p. checks_code p 84 mon 1 (take i ts) hs)
  pub room : HasRoom b (sum_by (λ t. form_size t + 8) (drop i ts))

at_drop : (ts : List Tree) (i : ℕ) (t : Tree) → i < length ts → get_or ts i t ≡ t → sum_by (λ u. form_size u + 8) (drop i ts) ≡ (form_size t + 8) + sum_by (λ u. form_size u + 8) (drop (i + 1) ts)
at_drop ts i t lt e = ap (sum_by (λ u. form_size u + 8)) (drop_more ts i t lt ∙ ap (λ x. x ∷ drop (i + 1) ts) e) ∙ sum_by-cons (λ u. form_size u + 8) t (drop (i + 1) ts)

pub checked_room : (a b : Draft) (mon : ℕ → Bool → Mon) (ts : List Tree) (hs : List Home) (i : ℕ) (t : Tree) → i < length ts → get_or ts i t ≡ t → Checked a b mon ts hs i → HasRoom b (form_size t + 8)
checked_room a b mon ts hs i t lt e c = fewer_room b _ _ (omega (arith, at_drop ts i t lt e)) c.room

pub checked_more : (a b b' : Draft) (mon : ℕ → Bool → Mon) (ts : List Tree) (hs : List Home) (i : ℕ) (t : Tree) → i < length ts → get_or ts i t ≡ t → Checked a b mon ts hs i
    → Appends b b' (λ p. check_code p 84 (mon (i + 1)) t hs) → Checked a b' mon ts hs (i + 1)
checked_more a b b' mon ts hs i t lt e c x =
    let longer : take (i + 1) ts ≡ take i ts ++ t ∷ [] = take_more ts i t lt ∙ ap (λ u. take i ts ++ u ∷ []) e in
    let count : length (take i ts) ≡ i = simp length-take (omega arith) in
    let number : i + 1 ≡ 1 + length (take i ts) = omega (arith, count) in
    let x' : Appends b b' (λ p. check_code p 84 (mon (1 + length (take i ts))) t hs) = subst (λ j. Appends b b' (λ p. check_code p 84 (mon j) t hs)) number x in
    let all = appends_on a b b' (λ p. checks_code p 84 mon 1 (take i ts) hs) (λ p. check_code p 84 (mon (1 + length (take i ts))) t hs) c.appends x' in
    record {
      appends = subst (λ us. Appends a b' (λ p. checks_code p 84 mon 1 us hs)) (sym longer)
          (record {
            added = all.added;
            labels = all.labels;
            counts = all.counts;
            pushed = all.pushed;
            places = all.places;
            few = all.few;
            own = λ front more s. let o = all.own front more s in record { code_is = o.code_is ∙ sym (checks_more (length a.pushed) mon 1 (take i ts) t hs); placed = o.placed };
          });
      room = room_after b b' (λ p. check_code p 84 (mon (i + 1)) t hs) _ _ x c.room (omega (arith, at_drop ts i t lt e, length-check (length b.pushed) (mon (i + 1)) t hs));
    }

pub checked_none : (a : Draft) (mon : ℕ → Bool → Mon) (ts : List Tree) (hs : List Home) → HasRoom a (sum_by (λ t. form_size t + 8) ts) → Checked a a mon ts hs 0
checked_none a mon ts hs r = record {
  appends = record {
    added = [];
    labels = [];
    counts = refl;
    pushed = sym (nil_right a.pushed);
    places = sym (nil_right a.places);
    few = omega arith;
    own = λ front more s. record { code_is = refl; placed = refl };
  };
  room = r;
}

pub checked_all : (a b : Draft) (mon : ℕ → Bool → Mon) (ts : List Tree) (hs : List Home) (i : ℕ) → length ts ≤ i → Checked a b mon ts hs i → Appends a b (λ p. checks_code p 84 mon 1 ts hs)
checked_all a b mon ts hs i le c = subst (λ us. Appends a b (λ p. checks_code p 84 mon 1 us hs)) (take_all i ts le) c.appends

pub need_at : (ts : List Tree) (i : ℕ) (t : Tree) → i < length ts → get_or ts i t ≡ t → AllNeed 16 ts → need t ≤ 16
need_at [] i t lt e h = absurd (omega arith)
need_at (u ∷ ts) zero t lt e h = let same : u ≡ t = e in subst (λ x. need x ≤ 16) same h.0
need_at (u ∷ ts) (suc i) t lt e h = need_at ts i t (omega arith) e h.1

pub small_at : (ts : List Tree) (i : ℕ) (t : Tree) → i < length ts → get_or ts i t ≡ t → AllSmall ts → IsSmall t
small_at [] i t lt e h = absurd (omega arith)
small_at (u ∷ ts) zero t lt e h = let same : u ≡ t = e in subst IsSmall same h.0
small_at (u ∷ ts) (suc i) t lt e h = small_at ts i t (omega arith) e h.1

-- the same of words
pub record Worded (a b : Draft) (ts : List (List Term)) (hs : List Home) (i : ℕ) : Type 0 where
  pub appends : Appends a b (λ p. words_code p 68 (take i ts) hs)
  pub room : HasRoom b (sum_by (λ t. poly_size t + 6) (drop i ts))

poly_at_drop : (ts : List (List Term)) (i : ℕ) (t : List Term) → i < length ts → get_or ts i t ≡ t → sum_by (λ u. poly_size u + 6) (drop i ts) ≡ (poly_size t + 6) + sum_by (λ u. poly_size u + 6) (drop (i + 1) ts)
poly_at_drop ts i t lt e = ap (sum_by (λ u. poly_size u + 6)) (drop_more ts i t lt ∙ ap (λ x. x ∷ drop (i + 1) ts) e) ∙ sum_by-cons (λ u. poly_size u + 6) t (drop (i + 1) ts)

pub worded_room : (a b : Draft) (ts : List (List Term)) (hs : List Home) (i : ℕ) (t : List Term) → i < length ts → get_or ts i t ≡ t → Worded a b ts hs i → HasRoom b (poly_size t + 6)
worded_room a b ts hs i t lt e c = fewer_room b _ _ (omega (arith, poly_at_drop ts i t lt e)) c.room

pub worded_more : (a b b' : Draft) (ts : List (List Term)) (hs : List Home) (i : ℕ) (t : List Term) → i < length ts → get_or ts i t ≡ t → Worded a b ts hs i
    → Appends b b' (λ p. word_code p (68 + i) t hs) → Worded a b' ts hs (i + 1)
worded_more a b b' ts hs i t lt e c x =
    let longer : take (i + 1) ts ≡ take i ts ++ t ∷ [] = take_more ts i t lt ∙ ap (λ u. take i ts ++ u ∷ []) e in
    let count : length (take i ts) ≡ i = simp length-take (omega arith) in
    let x' : Appends b b' (λ p. word_code p (68 + length (take i ts)) t hs) = subst (λ j. Appends b b' (λ p. word_code p (68 + j) t hs)) (sym count) x in
    let all = appends_on a b b' (λ p. words_code p 68 (take i ts) hs) (λ p. word_code p (68 + length (take i ts)) t hs) c.appends x' in
    record {
      appends = subst (λ us. Appends a b' (λ p. words_code p 68 us hs)) (sym longer)
          (record {
            added = all.added;
            labels = all.labels;
            counts = all.counts;
            pushed = all.pushed;
            places = all.places;
            few = all.few;
            own = λ front more s. let o = all.own front more s in record { code_is = o.code_is ∙ sym (words_more (length a.pushed) 68 (take i ts) t hs); placed = o.placed };
          });
      room = room_after b b' (λ p. word_code p (68 + i) t hs) _ _ x c.room (omega (arith, poly_at_drop ts i t lt e, length-word (length b.pushed) (68 + i) t hs));
    }

pub worded_none : (a : Draft) (ts : List (List Term)) (hs : List Home) → HasRoom a (sum_by (λ t. poly_size t + 6) ts) → Worded a a ts hs 0
worded_none a ts hs r = record {
  appends = record {
    added = [];
    labels = [];
    counts = refl;
    pushed = sym (nil_right a.pushed);
    places = sym (nil_right a.places);
    few = omega arith;
    own = λ front more s. record { code_is = refl; placed = refl };
  };
  room = r;
}

pub worded_all : (a b : Draft) (ts : List (List Term)) (hs : List Home) (i : ℕ) → length ts ≤ i → Worded a b ts hs i → Appends a b (λ p. words_code p 68 ts hs)
worded_all a b ts hs i le c = subst (λ us. Appends a b (λ p. words_code p 68 us hs)) (take_all i ts le) c.appends

pub small_poly_at : (ts : List (List Term)) (i : ℕ) (t : List Term) → i < length ts → get_or ts i t ≡ t → SmallPolys ts → norm t < 2 ^ 62
small_poly_at [] i t lt e h = absurd (omega arith)
small_poly_at (u ∷ ts) zero t lt e h = let same : u ≡ t = e in subst (λ x. norm x < 2 ^ 62) same h.0
small_poly_at (u ∷ ts) (suc i) t lt e h = small_poly_at ts i t (omega arith) e h.1

-- an item of a list that is mapped
pub mapped_at : {A B : Type 0} (g : A → B) (xs : List A) (i : ℕ) (x : A) → i < length xs → x ≡ get_or xs i x → (i < length (map g xs)) × (get_or (map g xs) i (g x) ≡ g x)
mapped_at g xs i x lt e = (rw length-map lt, get_or-map g xs i x ∙ ap g (sym e))
