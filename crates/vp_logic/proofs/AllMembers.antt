-- Lists of forms as members.
use Rattle.std.proofs.Common.{◌≡◌, ℕ, Bool, ◌&&◌, ◌||◌, List, [], ◌∷◌, ◌++◌, map, refl, ap}
use Rattle.std.specs.List.{list_any}
use Rattle.vp_poly.specs.Value.{Point}
use Rattle.vp_logic.specs.declared.norm.Norm.{Norm}
use Rattle.vp_logic.specs.Tree.{Tree, Trees, None, Then, members, tree}
use Rattle.vp_logic.specs.Truth.{tree_holds, all_hold, any_holds, parts_hold}
use Rattle.vp_logic.specs.Sized.{AreSized, EachIsSized, EachHasOnly, TreesHaveOnly}

-- these forms before other members
abbrev pub members_before : List Tree → Trees → Trees
members_before [] ms = ms
members_before (t ∷ ts) ms = Then t (members_before ts ms)

pub members_before-none : (ts : List Tree) → members_before ts None ≡ members ts
members_before-none [] = refl
members_before-none (t ∷ ts) = ap (Then t) (members_before-none ts)

pub members_before-last : (ns : List Norm) (n : Norm) (ms : Trees) → members_before (map tree (ns ++ n ∷ [])) ms ≡ members_before (map tree ns) (Then (tree n) ms)
members_before-last [] n ms = refl
members_before-last (m ∷ ns) n ms = ap (Then (tree m)) (members_before-last ns n ms)

pub all_hold-members : (ts : List Tree) (x : Point) → all_hold (members ts) x ≡ parts_hold ts x
all_hold-members [] x = refl
all_hold-members (t ∷ ts) x = ap (λ (b : Bool). tree_holds t x && b) (all_hold-members ts x)

pub any_holds-members : (ts : List Tree) (x : Point) → any_holds (members ts) x ≡ list_any (λ t. tree_holds t x) ts
any_holds-members [] x = refl
any_holds-members (t ∷ ts) x = ap (λ (b : Bool). tree_holds t x || b) (any_holds-members ts x)

pub AreSized-members : (v : ℕ) (ts : List Tree) → EachIsSized v ts → AreSized v (members ts)
AreSized-members v [] h = tt
AreSized-members v (t ∷ ts) h = (h.0, AreSized-members v ts h.1)

pub TreesHaveOnly-members : (f : ℕ → Bool) (ts : List Tree) → EachHasOnly f ts → TreesHaveOnly f (members ts)
TreesHaveOnly-members f [] h = tt
TreesHaveOnly-members f (t ∷ ts) h = (h.0, TreesHaveOnly-members f ts h.1)

pub ruleset all_members = (all_hold-members, any_holds-members, AreSized-members, TreesHaveOnly-members)
