-- The loops that look for a name that is declared twice.
use Rattle.std.proofs.Common.{ℕ, ◌+◌, ◌≡◌, ◌<◌, Bool, true, false, ◌||◌, List, [], ◌∷◌, ◌++◌, take, drop, length, map, get_or, String, Global, string_bytes, Option, None, Some, if◌then◌else◌, refl, ap, sym, ◌∙◌, arith, subst, drop-cons, append_assoc, append-nil, Bor, MatchOption}
use Rattle.std.proofs.Math.Numerals.{add-one}
use Rattle.std.proofs.Math.ListN.{drop_of_length-le}
use Rattle.std.proofs.lemmas.List.{take_more}
use Rattle.std.specs.Str.{bytes_eq}
use Rattle.vp_read.specs.Naming.{contains, first_again}

abbrev pub texts : List (String Global) → List (List ℕ)
texts ns = map string_bytes ns

name_here : (ns : List (String Global)) (i : ℕ) (z : String Global) → i < length ns → texts (drop i ns) ≡ string_bytes (get_or ns i z) ∷ texts (drop (i + 1) ns)
name_here ns i z h = rw (add-one i) (ap texts (drop-cons ns i z h))

-- a name in a list
abbrev pub ContainsFrom : List (String Global) → List ℕ → ℕ → Type 0
ContainsFrom ns name i = contains (texts ns) name ≡ contains (texts (drop i ns)) name

pub contains_here : (ns : List (String Global)) (name : List ℕ) (i : ℕ) (z : String Global) → i < length ns → bytes_eq (string_bytes (get_or ns i z)) name ≡ true → ContainsFrom ns name i → true ≡ contains (texts ns) name
contains_here ns name i z h e b = sym (b ∙ ap (λ (ms : List (List ℕ)). contains ms name) (name_here ns i z h) ∙ rw e refl)

pub contains_on : (ns : List (String Global)) (name : List ℕ) (i : ℕ) (z : String Global) → i < length ns → bytes_eq (string_bytes (get_or ns i z)) name ≡ false → ContainsFrom ns name i → ContainsFrom ns name (i + 1)
contains_on ns name i z h e b = b ∙ ap (λ (ms : List (List ℕ)). contains ms name) (name_here ns i z h) ∙ rw e refl

pub contains_ends : (ns : List (String Global)) (name : List ℕ) (i : ℕ) → i ≡ length ns → ContainsFrom ns name i → false ≡ contains (texts ns) name
contains_ends ns name i e b = sym (b ∙ ap (λ (ms : List (String Global)). contains (texts ms) name) (drop_of_length-le ns {i = i} (omega arith)))

contains_both : (ys ws : List (List ℕ)) (name : List ℕ) → contains (ys ++ ws) name ≡ (contains ys name || contains ws name)
contains_both [] ws name = refl
contains_both (a ∷ ys) ws name = of (bytes_eq a name) (contains_both ys ws name)
  where
    of : (e : Bool) → contains (ys ++ ws) name ≡ (contains ys name || contains ws name) → (e || contains (ys ++ ws) name) ≡ ((e || contains ys name) || contains ws name)
    of true h = refl
    of false h = h

-- a name that stands in a list or before it
abbrev pub AgainFrom : List (List ℕ) → List (String Global) → ℕ → Type 0
AgainFrom before ns i = first_again before (texts ns) ≡ first_again (before ++ texts (take i ns)) (texts (drop i ns))

map_more : (ns : List (String Global)) (i : ℕ) (z : String Global) → i < length ns → texts (take (i + 1) ns) ≡ texts (take i ns) ++ string_bytes (get_or ns i z) ∷ []
map_more ns i z h = ap texts (take_more ns i z h) ∙ map_append (take i ns) (get_or ns i z)
  where
    map_append : (ms : List (String Global)) (m : String Global) → texts (ms ++ m ∷ []) ≡ texts ms ++ string_bytes m ∷ []
    map_append [] m = refl
    map_append (k ∷ ks) m = ap (λ (xs : List (List ℕ)). string_bytes k ∷ xs) (map_append ks m)

pub standing : (first second : List (List ℕ)) (taken : List (List ℕ)) (name : List ℕ) → contains ((first ++ second) ++ taken) name ≡ ((contains first name || contains second name) || contains taken name)
standing first second taken name = contains_both (first ++ second) taken name ∙ ap (λ (b : Bool). b || contains taken name) (contains_both first second name)

pub again_here : (before : List (List ℕ)) (ns : List (String Global)) (i : ℕ) (z : String Global) → i < length ns → contains (before ++ texts (take i ns)) (string_bytes (get_or ns i z)) ≡ true → AgainFrom before ns i → first_again before (texts ns) ≡ Some (string_bytes (get_or ns i z))
again_here before ns i z h e b = b ∙ ap (first_again (before ++ texts (take i ns))) (name_here ns i z h) ∙ rw e refl

pub again_on : (before : List (List ℕ)) (ns : List (String Global)) (i : ℕ) (z : String Global) → i < length ns → contains (before ++ texts (take i ns)) (string_bytes (get_or ns i z)) ≡ false → AgainFrom before ns i → AgainFrom before ns (i + 1)
again_on before ns i z h e b = b ∙ ap (first_again (before ++ texts (take i ns))) (name_here ns i z h) ∙ rw e refl ∙ ap (λ (xs : List (List ℕ)). first_again xs (texts (drop (i + 1) ns))) (append_assoc before (texts (take i ns)) (string_bytes (get_or ns i z) ∷ []) ∙ ap (λ (xs : List (List ℕ)). before ++ xs) (sym (map_more ns i z h)))

pub again_ends : (before : List (List ℕ)) (ns : List (String Global)) (i : ℕ) → i ≡ length ns → AgainFrom before ns i → first_again before (texts ns) ≡ None
again_ends before ns i e b = b ∙ ap (λ (ms : List (String Global)). first_again (before ++ texts (take i ns)) (texts ms)) (drop_of_length-le ns {i = i} (omega arith))

-- a name that stands twice in the first list stands twice in both
pub again_first : (before ys ws : List (List ℕ)) (name : List ℕ) → first_again before ys ≡ Some name → first_again before (ys ++ ws) ≡ Some name
again_first before [] ws name e = absurd (cc)
again_first before (a ∷ ys) ws name e = of (contains before a) e (λ h. again_first (before ++ a ∷ []) ys ws name h)
  where
    of : (c : Bool) → (if c then Some a else first_again (before ++ a ∷ []) ys) ≡ Some name → (first_again (before ++ a ∷ []) ys ≡ Some name → first_again (before ++ a ∷ []) (ys ++ ws) ≡ Some name) → (if c then Some a else first_again (before ++ a ∷ []) (ys ++ ws)) ≡ Some name
    of true e f = e
    of false e f = f e

pub again_second : (before ys ws : List (List ℕ)) → first_again before ys ≡ None → first_again before (ys ++ ws) ≡ first_again (before ++ ys) ws
again_second before [] ws e = ap (λ (xs : List (List ℕ)). first_again xs ws) (sym (append-nil before))
again_second before (a ∷ ys) ws e = of (contains before a) e (λ h. again_second (before ++ a ∷ []) ys ws h)
  where
    of : (c : Bool) → (if c then Some a else first_again (before ++ a ∷ []) ys) ≡ None → (first_again (before ++ a ∷ []) ys ≡ None → first_again (before ++ a ∷ []) (ys ++ ws) ≡ first_again ((before ++ a ∷ []) ++ ys) ws) → (if c then Some a else first_again (before ++ a ∷ []) (ys ++ ws)) ≡ first_again (before ++ a ∷ ys) ws
    of true e f = absurd (cc)
    of false e f = f e ∙ ap (λ (xs : List (List ℕ)). first_again xs ws) (append_assoc before (a ∷ []) ys)

-- and so over three lists
pub three_first : (ps ss cs : List (List ℕ)) (name : List ℕ) → first_again [] ps ≡ Some name → first_again [] (ps ++ ss ++ cs) ≡ Some name
three_first ps ss cs name e = again_first [] (ps ++ ss) cs name (again_first [] ps ss name e)

pub three_second : (ps ss cs : List (List ℕ)) (name : List ℕ) → first_again [] ps ≡ None → first_again ps ss ≡ Some name → first_again [] (ps ++ ss ++ cs) ≡ Some name
three_second ps ss cs name n e = again_first [] (ps ++ ss) cs name (again_second [] ps ss n ∙ e)

pub three_third : (ps ss cs : List (List ℕ)) → first_again [] ps ≡ None → first_again ps ss ≡ None → first_again [] (ps ++ ss ++ cs) ≡ first_again (ps ++ ss) cs
three_third ps ss cs n m = again_second [] (ps ++ ss) cs (again_second [] ps ss n ∙ m)

pub three_last : (ps ss cs : List (List ℕ)) (o : Option (Bor (List ℕ))) → first_again [] ps ≡ None → first_again ps ss ≡ None → MatchOption o (first_again (ps ++ ss) cs ≡ None) (λ n. first_again (ps ++ ss) cs ≡ Some n.now) → MatchOption o (first_again [] (ps ++ ss ++ cs) ≡ None) (λ n. first_again [] (ps ++ ss ++ cs) ≡ Some n.now)
three_last ps ss cs o n m h = subst (λ (f : Option (List ℕ)). MatchOption o (f ≡ None) (λ n. f ≡ Some n.now)) (sym (three_third ps ss cs n m)) h
