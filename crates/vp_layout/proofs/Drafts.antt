-- Drafts that grow.
use Rattle.std.proofs.Common.{◌≡◌, ℕ, ◌+◌, ◌^◌, ◌<◌, ◌≤◌, OnOk, Result, Ok, Err, List, [], ◌∷◌, ◌++◌, length, map, take, Bool, true, false, ◌&&◌, Option, Some, None, refl, sym, ap, ◌∙◌, subst, arith, append_assoc, length-append}
use Rattle.std.specs.Prelude.{slice_get, slice_set}
use Rattle.std.proofs.Math.Seq.{get_or-append_seam, set-append_seam}
use Rattle.std.proofs.lemmas.Option.{slice_get-get_or}
use Rattle.std.proofs.lemmas.List.{map-append, length-map, take_all}
use Rattle.vp_isa.specs.declared.instr.Mon.{Mon}
use Rattle.vp_isa.specs.declared.instr.Instr.{Instr}
use Rattle.vp_isa.specs.declared.instr.Instr.TheVariants.{Jmp, Jge, Jgt, Jeq, Halt}
use Rattle.vp_isa.specs.Valid.{target_of}
use Rattle.vp_isa.specs.Block.{is_plain, are_plain}
use Rattle.vp_emit.specs.Draft.{Draft}
use Rattle.vp_emit.specs.Targets.{resolved, unplaced, first_unplaced, or_else, place_of, with_label, lacking_label}
use Rattle.vp_layout.specs.Blocks.{yes_code}
use Rattle.vp_layout.specs.Drafts.{is_none, no_jumps, Settles, Appends, HasRoom}

first_append : (p : List (Option ℕ)) (a b : List Instr) → first_unplaced p a ≡ None → first_unplaced p b ≡ None → first_unplaced p (a ++ b) ≡ None
first_append p [] b e f = f
first_append p (i ∷ a) b e f = by_first (unplaced p i) e (λ g. first_append p a b g f)
  where
    by_first : (o : Option ℕ) → or_else o (first_unplaced p a) ≡ None → (first_unplaced p a ≡ None → first_unplaced p (a ++ b) ≡ None) → or_else o (first_unplaced p (a ++ b)) ≡ None
    by_first None e rest = rest e
    by_first (Some l) e rest = absurd cc

pub settles_append : (p : List (Option ℕ)) (a b f g : List Instr) → Settles p a f → Settles p b g → Settles p (a ++ b) (f ++ g)
settles_append p a b f g x y = record {
  code_is = map-append (resolved p) a b ∙ ap (λ is. is ++ map (resolved p) b) x.code_is ∙ ap (λ is. f ++ is) y.code_is;
  placed = first_append p a b x.placed y.placed;
}

pub appends_on : (a b c : Draft) (f g : ℕ → List Instr) → Appends a b f → Appends b c g → Appends a c (λ p. f p ++ g (p + length (f p)))
appends_on a b c f g x y =
    let p = length a.pushed in
    let len_added : length x.added ≡ length (f p) =
    let s = x.own a.places [] refl in sym (length-map x.added (resolved (a.places ++ (x.labels ++ [])))) ∙ ap length s.code_is in
    let at : length b.pushed ≡ p + length (f p) = ap length x.pushed ∙ length-append a.pushed x.added ∙ ap (λ n. p + n) len_added in
    record {
      added = x.added ++ y.added;
      labels = x.labels ++ y.labels;
      counts = y.counts ∙ x.counts;
      pushed = y.pushed ∙ ap (λ l. l ++ y.added) x.pushed ∙ append_assoc a.pushed x.added y.added;
      places = y.places ∙ ap (λ l. l ++ y.labels) x.places ∙ append_assoc a.places x.labels y.labels;
      few = omega (arith, length-append x.added y.added, length-append x.labels y.labels, x.few, y.few);
      own = λ front more e.
          let first : front ++ ((x.labels ++ y.labels) ++ more) ≡ front ++ (x.labels ++ (y.labels ++ more)) = ap (λ l. front ++ l) (append_assoc x.labels y.labels more) in
          let second : front ++ ((x.labels ++ y.labels) ++ more) ≡ (front ++ x.labels) ++ (y.labels ++ more) = first ∙ sym (append_assoc front x.labels (y.labels ++ more)) in
          let size : length (front ++ x.labels) ≡ length b.places = length-append front x.labels ∙ ap (λ n. n + length x.labels) e ∙ sym (length-append a.places x.labels) ∙ ap length (sym x.places) in
          settles_append (front ++ ((x.labels ++ y.labels) ++ more)) x.added y.added (f p) (g (p + length (f p)))
          (subst (λ l. Settles l x.added (f p)) (sym first) (x.own front (y.labels ++ more) e))
          (subst (λ n. Settles (front ++ ((x.labels ++ y.labels) ++ more)) y.added (g n)) at
          (subst (λ l. Settles l y.added (g (length b.pushed))) (sym second) (y.own (front ++ x.labels) more size)));
    }

pub nil_right : {A : Type 0} (xs : List A) → xs ++ [] ≡ xs
nil_right [] = refl
nil_right (x ∷ xs) = ap (λ l. x ∷ l) (nil_right xs)

both_true : (a b : Bool) → (a && b) ≡ true → (a ≡ true) × (b ≡ true)
both_true true b h = (refl, h)
both_true false b h = absurd cc

-- an instruction without a target
still_same : (p : List (Option ℕ)) (i : Instr) → is_none (target_of i) ≡ true → (resolved p i ≡ i) × (unplaced p i ≡ None)
still_same p i h = by_target (target_of i) h
  where
    by_target : (o : Option ℕ) → is_none o ≡ true → (with_label (place_of p) i o ≡ i) × (lacking_label (place_of p) o ≡ None)
    by_target None h = (refl, refl)
    by_target (Some t) h = absurd cc

pub still_settles : (p : List (Option ℕ)) (is : List Instr) → no_jumps is ≡ true → Settles p is is
still_settles p [] h = record { code_is = refl; placed = refl }
still_settles p (i ∷ is) h =
    let parts = both_true (is_none (target_of i)) (no_jumps is) h in
    let one = still_same p i parts.0 in
    let rest = still_settles p is parts.1 in
    record {
      code_is = ap (λ j. j ∷ map (resolved p) is) one.0 ∙ ap (λ js. i ∷ js) rest.code_is;
      placed = rw one.1 rest.placed;
    }

-- a block without jumps
pub block_appends : (a b : Draft) (is : List Instr) → no_jumps is ≡ true → b ≡ record a { pushed = a.pushed ++ is } → Appends a b (λ p. is)
block_appends a b is h e = record {
  added = is;
  labels = [];
  counts = ap (λ (d : Draft). d.counts) e;
  pushed = ap (λ (d : Draft). d.pushed) e;
  places = ap (λ (d : Draft). d.places) e ∙ sym (nil_right a.places);
  few = omega arith;
  own = λ front more s. still_settles (front ++ more) is h;
}

plain_still : (i : Instr) → is_plain i ≡ true → is_none (target_of i) ≡ true
plain_still (Jmp t) h = absurd cc
plain_still (Jge a b t) h = absurd cc
plain_still (Jgt a b t) h = absurd cc
plain_still (Jeq a b t) h = absurd cc
plain_still _ h = refl

pub plain_no_jumps : (is : List Instr) → are_plain is ≡ true → no_jumps is ≡ true
plain_no_jumps [] h = refl
plain_no_jumps (i ∷ is) h =
    let parts = both_true (is_plain i) (are_plain is) h in
    rw (plain_still i parts.0) (plain_no_jumps is parts.1)

-- what a draft has room for
pub room_after : (a b : Draft) (f : ℕ → List Instr) (n m : ℕ) → Appends a b f → HasRoom a m → length (f (length a.pushed)) + n ≤ m → HasRoom b n
room_after a b f n m x r le =
    let s = x.own a.places [] refl in
    let len : length x.added ≡ length (f (length a.pushed)) = sym (length-map x.added (resolved (a.places ++ (x.labels ++ [])))) ∙ ap length s.code_is in
    let room : length a.pushed + m < 2 ^ 31 = r.room in
    let labels : length a.places ≤ length a.pushed + 1 = r.labels in
    let few : length x.labels ≤ length x.added = x.few in
    let pushed : length b.pushed ≡ length a.pushed + length x.added = ap length x.pushed ∙ length-append a.pushed x.added in
    let places : length b.places ≡ length a.places + length x.labels = ap length x.places ∙ length-append a.places x.labels in
    record { room = omega arith; labels = omega arith }

-- Two labels.

get_seam : {X : Type 0} (xs : List X) (x : X) (ys : List X) → slice_get (xs ++ x ∷ ys) (length xs) ≡ Some x
get_seam xs x ys =
    let within : length xs < length (xs ++ x ∷ ys) = omega (arith, length-append xs (x ∷ ys)) in
    slice_get-get_or (xs ++ x ∷ ys) (length xs) x within ∙ ap Some (get_or-append_seam xs x ys x)

-- the first label of those that follow a front, and the second
pub first_label : (front : List (Option ℕ)) (l : ℕ) (x : Option ℕ) (ys : List (Option ℕ)) → l ≡ length front → slice_get (front ++ x ∷ ys) l ≡ Some x
first_label front l x ys e = ap (slice_get (front ++ x ∷ ys)) e ∙ get_seam front x ys

pub second_label : (front : List (Option ℕ)) (l : ℕ) (x y : Option ℕ) (ys : List (Option ℕ)) → l ≡ length front → slice_get (front ++ x ∷ y ∷ ys) (l + 1) ≡ Some y
second_label front l x y ys e =
    let len : l + 1 ≡ length (front ++ x ∷ []) = omega (arith, length-append front (x ∷ []), e) in
    ap (slice_get (front ++ x ∷ y ∷ ys)) len ∙ ap (λ zs. slice_get zs (length (front ++ x ∷ []))) (sym (append_assoc front (x ∷ []) (y ∷ ys))) ∙ get_seam (front ++ x ∷ []) y ys

pub two_placed : {X : Type 0} (xs : List X) (x y u v : X) (zs : List X) → slice_set (slice_set (xs ++ x ∷ y ∷ zs) (length xs + 1) v) (length xs) u ≡ xs ++ u ∷ v ∷ zs
two_placed xs x y u v zs =
    let e : length (xs ++ x ∷ []) ≡ length xs + 1 = omega (arith, length-append xs (x ∷ [])) in
    ap (λ n. slice_set (slice_set (xs ++ x ∷ y ∷ zs) n v) (length xs) u) (sym e)
    ∙ ap (λ l. slice_set (slice_set l (length (xs ++ x ∷ [])) v) (length xs) u) (sym (append_assoc xs (x ∷ []) (y ∷ zs)))
    ∙ ap (λ l. slice_set l (length xs) u) (set-append_seam (xs ++ x ∷ []) y zs v ∙ append_assoc xs (x ∷ []) (v ∷ zs))
    ∙ set-append_seam xs x (v ∷ zs) u

pub one_placed : {X : Type 0} (xs : List X) (x u : X) → slice_set (xs ++ x ∷ []) (length xs) u ≡ xs ++ u ∷ []
one_placed xs x u = set-append_seam xs x [] u

pub yes_appends : (d : ℕ) (a b : Draft) (refuted maybe : Mon) (mons : Bool → Mon) → mons false ≡ refuted → mons true ≡ maybe
    → b.counts ≡ a.counts
    → b.pushed ≡ (((a.pushed ++ Jge d 66 (length a.places) ∷ []) ++ Jge d 65 (length a.places + 1) ∷ []) ++ Halt refuted ∷ []) ++ Halt maybe ∷ []
    → b.places ≡ slice_set (slice_set ((a.places ++ None ∷ []) ++ None ∷ []) (length a.places + 1) (Some (length a.pushed + 3))) (length a.places) (Some (length a.pushed + 4))
    → Appends a b (λ p. yes_code p d mons)
yes_appends d a b refuted maybe mons e0 e1 ec e f =
    let n = length a.pushed in
    let l = length a.places in
    let none : Option ℕ = None in
    record {
      added = Jge d 66 l ∷ Jge d 65 (l + 1) ∷ Halt refuted ∷ Halt maybe ∷ [];
      labels = Some (n + 4) ∷ Some (n + 3) ∷ [];
      counts = ec;
      pushed = e ∙ simp append_assoc;
      places = f ∙ ap (λ x. slice_set (slice_set x (l + 1) (Some (n + 3))) l (Some (n + 4))) (append_assoc a.places (none ∷ []) (none ∷ [])) ∙ two_placed a.places None None (Some (n + 4)) (Some (n + 3)) [];
      few = omega arith;
      own = λ front more s.
          let one : slice_get (front ++ Some (n + 4) ∷ Some (n + 3) ∷ more) l ≡ Some (Some (n + 4)) = first_label front l (Some (n + 4)) (Some (n + 3) ∷ more) (sym s) in
          let two : slice_get (front ++ Some (n + 4) ∷ Some (n + 3) ∷ more) (l + 1) ≡ Some (Some (n + 3)) = second_label front l (Some (n + 4)) (Some (n + 3)) more (sym s) in
          record { code_is = rw (one, two, e0, e1) refl; placed = rw (one, two) refl };
    }

-- the same, by the labels that were given and the lengths as they were
pub yes_made : (d : ℕ) (a b : Draft) (ok unknown : ℕ) (refuted maybe : Mon) (mons : Bool → Mon) → mons false ≡ refuted → mons true ≡ maybe → ok ≡ length a.places → unknown ≡ length (a.places ++ None ∷ [])
    → let p3 = ((a.pushed ++ Jge d 66 ok ∷ []) ++ Jge d 65 unknown ∷ []) ++ Halt refuted ∷ [] in
    let p4 = p3 ++ Halt maybe ∷ [] in
    b ≡ record { counts = a.counts; pushed = p4; places = slice_set (slice_set ((a.places ++ None ∷ []) ++ None ∷ []) unknown (Some (length p3))) ok (Some (length p4)) }
    → Appends a b (λ p. yes_code p d mons)
yes_made d a b ok unknown refuted maybe mons e0 e1 e f g =
    let n : Option ℕ = None in
    let u : unknown ≡ length a.places + 1 = omega (arith, f, length-append a.places (n ∷ [])) in
    let p3 = ((a.pushed ++ Jge d 66 ok ∷ []) ++ Jge d 65 unknown ∷ []) ++ Halt refuted ∷ [] in
    let l3 : length p3 ≡ length a.pushed + 3 = simp length-append (omega arith) in
    let l4 : length (p3 ++ Halt maybe ∷ []) ≡ length a.pushed + 4 = simp length-append (omega arith) in
    yes_appends d a b refuted maybe mons e0 e1
    (ap (λ (s : Draft). s.counts) g)
    (ap (λ (s : Draft). s.pushed) g ∙ rw (e, u) refl)
    (ap (λ (s : Draft). s.places) g ∙ rw (l3, l4) (rw (e, u) refl))

-- all of a block was pushed
pub block_pushed : (a b : Draft) (k : ℕ) (is : List Instr) → length is ≤ k → no_jumps is ≡ true → b ≡ record a { pushed = a.pushed ++ take k is } → Appends a b (λ p. is)
block_pushed a b k is h still e = block_appends a b is still (e ∙ ap (λ x. record a { pushed = a.pushed ++ x }) (take_all k is h))

pub on_ok : {A E : Type 0} (r : Result A E) (P Q : Type 0) → (P → Q) → OnOk r P → OnOk r Q
on_ok (Ok x) P Q f h = f h
on_ok (Err e) P Q f h = tt

pub fewer_room : (a : Draft) (n m : ℕ) → n ≤ m → HasRoom a m → HasRoom a n
fewer_room a n m le r = let room : length a.pushed + m < 2 ^ 31 = r.room in record { room = omega arith; labels = r.labels }

-- a block, and then what follows it
pub block_then : (a b c : Draft) (block code : List Instr) (g : ℕ → List Instr) → block ≡ code → Appends a b (λ p. block) → Appends b c g → Appends a c (λ p. code ++ g (p + length code))
block_then a b c block code g e x y = appends_on a b c (λ p. code) g (subst (λ is. Appends a b (λ p. is)) e x) y

-- how many instructions a part has
pub added_length : (a b : Draft) (f : ℕ → List Instr) (x : Appends a b f) → length x.added ≡ length (f (length a.pushed))
added_length a b f x = let s = x.own a.places [] refl in sym (length-map x.added (resolved (a.places ++ (x.labels ++ [])))) ∙ ap length s.code_is

pub end_of : (a b : Draft) (f : ℕ → List Instr) (x : Appends a b f) → length b.pushed ≡ length a.pushed + length (f (length a.pushed))
end_of a b f x = ap length x.pushed ∙ length-append a.pushed x.added ∙ ap (λ n. length a.pushed + n) (added_length a b f x)

pub set_first : (xs ys : List (Option ℕ)) (x u : Option ℕ) (l : ℕ) → l ≡ length xs → slice_set (xs ++ x ∷ ys) l u ≡ xs ++ u ∷ ys
set_first xs ys x u l e = ap (λ n. slice_set (xs ++ x ∷ ys) n u) e ∙ set-append_seam xs x ys u

pub set_second : (xs ys : List (Option ℕ)) (x y v : Option ℕ) (l : ℕ) → l ≡ length xs + 1 → slice_set (xs ++ x ∷ y ∷ ys) l v ≡ xs ++ x ∷ v ∷ ys
set_second xs ys x y v l e =
    let len : l ≡ length (xs ++ x ∷ []) = omega (arith, length-append xs (x ∷ []), e) in
    ap (λ n. slice_set (xs ++ x ∷ y ∷ ys) n v) len ∙ ap (λ zs. slice_set zs (length (xs ++ x ∷ [])) v) (sym (append_assoc xs (x ∷ []) (y ∷ ys)))
    ∙ set-append_seam (xs ++ x ∷ []) y ys v ∙ append_assoc xs (x ∷ []) (v ∷ ys)

-- room after a label that is placed
pub label_room : (a d : Draft) (v : Option ℕ) (n m : ℕ) → HasRoom a n → length a.places ≤ length a.pushed → m ≤ n → d.pushed ≡ a.pushed → length d.places ≡ length a.places + 1 → HasRoom d m
label_room a d v n m r few le e f =
    let room : length a.pushed + n < 2 ^ 31 = r.room in
    let p : length d.pushed ≡ length a.pushed = ap length e in
    record { room = omega arith; labels = omega arith }
