-- For a command that is built one outcome is due.
use Rattle.std.proofs.Common.{◌≡◌, ◌≢◌, ◌⊎◌, inl, inr, ℕ, nat_lt, Bool, true, false, List, length, Option, None, Some, Result, Ok, Err, refl, ap, subst, sym, ◌∙◌, arith}
use Rattle.std.specs.Prelude.{IsSomeAnd, codes}
use Rattle.std.specs.Bool.{MatchBool}
use Rattle.vp_isa.specs.Answering.{machine_of}
use Rattle.vp_isa.specs.declared.code.Code.{Code}
use Rattle.vp_image.specs.declared.image.ImageErr.{ImageErr}
use Rattle.vp_image.specs.Image.{image_read}
use Rattle.vp_outside.specs.Loading.{NamedFile, file_named}
use Rattle.vp_monitor.specs.declared.types.Obligation.{Obligation}
use Rattle.vp_read.specs.Reading.{IsPackage}
use Rattle.vp_sandbox.specs.declared.sandbox.Sandbox.{Sandbox}
use Rattle.vp_stream.specs.Run.{run}
use Rattle.vp_synth.specs.Accepting.{AreMadeOf}
use Rattle.vp_synth.specs.Listing.{listing}
use Rattle.sha2.specs.Sha256.{sha256}
use Rattle.vp_words.specs.Exchanges.{Agree}
use Rattle.vp_gen.specs.Compiled.{Refuses}
use Rattle.vp_gen.specs.declared.generate.GenErr.{GenErr}
use Rattle.vp_gen.specs.declared.generate.GenErr.TheVariants as gen
use Rattle.vp_sandbox.specs.Answer.{sandbox_of}
use Rattle.vp_sandbox.specs.Sizes.{cell_bound, instruction_bound, saturated}
use Rattle.vp_stream.proofs.Agreeing.{runs_alike}
use Rattle.vp_synth.specs.Sandboxes.{SameParts}
use Rattle.vp_synth.specs.Stages.{Stage, Split, Certified, IsRefused, Passes}
use Rattle.vp_synth.specs.declared.refusal.Refusal.{Refusal}
use Rattle.vp_synth.specs.declared.refusal.Refusal.TheVariants.{Read, Monitor, Cert, Extra, Memory}
use Rattle.vp_terms.specs.Packages.{PackageTree, package_tree}
use Rattle.vp_terms.specs.declared.package.Package.{Package}
use Rattle.vp_cmd.specs.Alike.{AreAlike}
use Rattle.vp_cmd.specs.Commands.{Command, Check, Compile, Exec, Run as RunOf, Listing, Log, SelfTest, Demo, built, writes_image}
use Rattle.vp_cmd.specs.Dues.{IsAccepted, IsCompiled, IsDue, IsListed, IsRefusal, IsRun, IsSizeRefusal, OfCode, OfSandbox, OfText, image_limit, package_limit}
use Rattle.vp_cmd.specs.Images.{HasRoom, IsImageOf, RunsAs}
use Rattle.vp_cmd.specs.Outcomes.{Outcome, bad_image, done, refusal_text, refused, run_outcome, size_text}
use Rattle.vp_cmd.specs.Tank.{tank}

-- up to each stage a text has one refusal, and none where it passes
abbrev pub HasOneRefusal : Type 0
HasOneRefusal = (stage : Stage) (text : List ℕ) (r s : Refusal) → IsRefused stage text r → IsRefused stage text s → r ≡ s

abbrev pub IsNotRefused : Type 0
IsNotRefused = (stage : Stage) (text : List ℕ) (pkg : Package) (r : Refusal) → Passes stage text pkg → IsRefused stage text r → ⊥

-- it is one package but for boxes, which has one listing
abbrev pub IsOnePackage : Type 0
IsOnePackage = (text : List ℕ) (p q : Package) → IsPackage text p → IsPackage text q → package_tree p ≡ package_tree q

abbrev pub HasOneListing : Type 0
HasOneListing =
    (text : List ℕ) (p q : Package) (os ps : List Obligation) (s t : Sandbox) → IsPackage text p → IsPackage text q
    → AreMadeOf p os s → AreMadeOf q ps t → listing p.names s os ≡ listing q.names t ps

-- and its sandbox is one but for the boxes of its forms
abbrev pub HasOneSandbox : Type 0
HasOneSandbox =
    (text : List ℕ) (p q : Package) (os ps : List Obligation) (s t : Sandbox) → IsPackage text p → IsPackage text q
    → AreMadeOf p os s → AreMadeOf q ps t → SameParts s t

-- one outcome is owed
abbrev pub IsOne : (Outcome → Type 0) → Type 0
IsOne P = (d e : Outcome) → P d → P e → d ≡ e

one_of_file : (found : Option (List ℕ)) (limit : ℕ) (long : Outcome) (P : List ℕ → Outcome → Type 0) → ((bytes : List ℕ) → IsOne (P bytes))
    → IsOne (λ o. IsSomeAnd found (λ bytes. MatchBool (nat_lt limit (length bytes)) (o ≡ long) (P bytes o)))
one_of_file None limit long P one d e h k = absurd h
one_of_file (Some bytes) limit long P one d e h k = by (nat_lt limit (length bytes)) h k
  where
    by : (b : Bool) → MatchBool b (d ≡ long) (P bytes d) → MatchBool b (e ≡ long) (P bytes e) → d ≡ e
    by true h k = h ∙ sym k
    by false h k = one bytes d e h k

one_line : IsOnePackage → (text : List ℕ) (r : Refusal) → IsOne (IsRefusal text r)
one_line one text (Read why) d e h k = h ∙ sym k
one_line one text (Monitor why) d e h k = h.2 ∙ ap (λ (t : PackageTree). refused (refusal_text t.names (Monitor why))) (one text h.0 k.0 h.1 k.1) ∙ sym k.2
one_line one text (Cert part n why) d e h k = h.2 ∙ ap (λ (t : PackageTree). refused (refusal_text t.names (Cert part n why))) (one text h.0 k.0 h.1 k.1) ∙ sym k.2
one_line one text Extra d e h k = h.2 ∙ sym k.2
one_line one text Memory d e h k = h.2 ∙ sym k.2

one_of_text : HasOneRefusal → IsNotRefused → IsOnePackage → (stage : Stage) (P : List ℕ → Package → Outcome → Type 0) (text : List ℕ)
    → ((p q : Package) (d e : Outcome) → Passes stage text p → Passes stage text q → P text p d → P text q e → d ≡ e) → IsOne (OfText stage P text)
one_of_text one apart same stage P text alike d e (inl h) (inl k) =
    one_line same text h.0 d e h.2 (subst (λ (r : Refusal). IsRefusal text r e) (sym (one stage text h.0 k.0 h.1 k.1)) k.2)
one_of_text one apart same stage P text alike d e (inl h) (inr k) = absurd (apart stage text k.0 h.0 k.1 h.1)
one_of_text one apart same stage P text alike d e (inr h) (inl k) = absurd (apart stage text h.0 k.0 h.1 k.1)
one_of_text one apart same stage P text alike d e (inr h) (inr k) = alike h.0 k.0 d e h.1 k.1 h.2 k.2

-- two listings of one text
one_list : HasOneListing → (text : List ℕ) (p q : Package) (d e : Outcome) → Passes Split text p → Passes Split text q → IsListed text p d → IsListed text q e → d ≡ e
one_list one text p q d e m n h k =
    h.3 ∙ ap done (one text p q h.0 k.0 h.1 k.1 m.is n.is h.2 k.2) ∙ sym k.3

one_of_code : (P : Code → Outcome → Type 0) → ((code : Code) → IsOne (P code)) → (read : Result (Code × List ℕ) ImageErr) → IsOne (OfCode P read)
one_of_code P one (Err why) d e h k = h ∙ sym k
one_of_code P one (Ok found) d e h k = one found.0 d e h k

-- sandboxes that differ in boxes alone have the same sizes
same_instructions : (s t : Sandbox) → SameParts s t → instruction_bound s ≡ instruction_bound t
same_instructions s t h = rw h.counts (rw h.init (rw h.ctrl (rw h.plant (rw h.fallback refl))))

same_cells : (s t : Sandbox) → SameParts s t → cell_bound s ≡ cell_bound t
same_cells s t h = rw h.init (rw h.ctrl (rw h.plant (rw h.fallback refl)))

one_size : (s t : Sandbox) (d e : Outcome) → SameParts s t → IsSizeRefusal s d → IsSizeRefusal t e → d ≡ e
one_size s t d e same h k = of h.0 k.0 h.1 k.1 h.2 k.2 h.3 k.3
  where
    i : saturated (instruction_bound s) ≡ saturated (instruction_bound t)
    i = ap saturated (same_instructions s t same)

    c : saturated (cell_bound s) ≡ saturated (cell_bound t)
    c = ap saturated (same_cells s t same)

    of : (a b : GenErr) → a ≢ gen.Memory → b ≢ gen.Memory → Refuses s a → Refuses t b → d ≡ refused (size_text a) → e ≡ refused (size_text b) → d ≡ e
    of gen.Memory b na nb ra rb da eb = absurd (na refl)
    of a gen.Memory na nb ra rb da eb = absurd (nb refl)
    of (gen.Long m) (gen.Long n) na nb ra rb da eb = da ∙ ap (λ x. refused (size_text (gen.Long x))) (ra.1 ∙ i ∙ sym rb.1) ∙ sym eb
    of (gen.Cells m) (gen.Cells n) na nb ra rb da eb = da ∙ ap (λ x. refused (size_text (gen.Cells x))) (ra.2 ∙ c ∙ sym rb.2) ∙ sym eb
    of (gen.Long m) (gen.Cells n) na nb ra rb da eb = absurd (omega (arith, ra.0, ra.1, i, rb.0))
    of (gen.Cells m) (gen.Long n) na nb ra rb da eb = absurd (omega (arith, rb.0, rb.1, i, ra.0))

pub no_room : (s t : Sandbox) (d : Outcome) → SameParts s t → IsSizeRefusal s d → HasRoom t → ⊥
no_room s t d same h room = of h.0 h.1 h.2
  where
    i : saturated (instruction_bound s) ≡ saturated (instruction_bound t)
    i = ap saturated (same_instructions s t same)

    c : saturated (cell_bound s) ≡ saturated (cell_bound t)
    c = ap saturated (same_cells s t same)

    of : (a : GenErr) → a ≢ gen.Memory → Refuses s a → ⊥
    of gen.Memory na ra = na refl
    of (gen.Long m) na ra = omega (arith, ra.0, ra.1, i, room.instrs)
    of (gen.Cells m) na ra = omega (arith, ra.1, ra.2, c, room.cells)

pub same_backwards : (s t : Sandbox) → SameParts s t → SameParts t s
same_backwards s t h = record { counts = sym h.counts; init = sym h.init; ctrl = sym h.ctrl; plant = sym h.plant; fallback = sym h.fallback }

-- what is due of sandboxes that differ in boxes alone
one_of_sandbox : HasOneSandbox → (P : Sandbox → Outcome → Type 0) → ((s t : Sandbox) (d e : Outcome) → SameParts s t → P s d → P t e → d ≡ e)
    → (text : List ℕ) (p q : Package) (d e : Outcome) → IsPackage text p → IsPackage text q → OfSandbox P p d → OfSandbox P q e → d ≡ e
one_of_sandbox one P alike text p q d e m n h k = of h.3 k.3
  where
    same : SameParts h.1 k.1
    same = one text p q h.0 k.0 h.1 k.1 m n h.2 k.2

    of : IsSizeRefusal h.1 d ⊎ (HasRoom h.1 × P h.1 d) → IsSizeRefusal k.1 e ⊎ (HasRoom k.1 × P k.1 e) → d ≡ e
    of (inl a) (inl b) = one_size h.1 k.1 d e same a b
    of (inl a) (inr b) = absurd (no_room h.1 k.1 d same a b.0)
    of (inr a) (inl b) = absurd (no_room k.1 h.1 e (same_backwards h.1 k.1 same) b a.0)
    of (inr a) (inr b) = alike h.1 k.1 d e same a.1 b.1

-- sandboxes that differ in boxes alone run alike
abbrev pub AgreeWhereSame : Type 0
AgreeWhereSame = (s t : Sandbox) → SameParts s t → Agree (sandbox_of s) (sandbox_of t)

pub one_run : AgreeWhereSame → (input : List ℕ) (s t : Sandbox) (d e : Outcome) → SameParts s t → d ≡ run_outcome (run (sandbox_of s) input) → e ≡ run_outcome (run (sandbox_of t) input) → d ≡ e
one_run agree input s t d e same h k = h ∙ ap run_outcome (runs_alike (sandbox_of s) (sandbox_of t) (agree s t same) input) ∙ sym k

-- two images of one text: each is that of a code, and these run alike
one_image : AgreeWhereSame → (s t : Sandbox) → SameParts s t → (code other : Code) → RunsAs code s → RunsAs other t → (input : List ℕ) → run (machine_of code) input ≡ run (machine_of other) input
one_image agree s t same code other a b input = a.runs input ∙ runs_alike (sandbox_of s) (sandbox_of t) (agree s t same) input ∙ sym (b.runs input)

pub one_due : HasOneRefusal → IsNotRefused → IsOnePackage → HasOneListing → HasOneSandbox → AgreeWhereSame → (files : List NamedFile) (input : List ℕ) (command : Option Command) → writes_image command ≡ false
    → IsOne (IsDue files input (built command))
one_due one apart same list sandbox agree files input None w d e h k = h ∙ sym k
one_due one apart same list sandbox agree files input (Some (Check p)) w d e h k =
    one_of_file (file_named p files) package_limit (refused (codes "length")) (OfText Certified IsAccepted)
    (λ text. one_of_text one apart same Certified IsAccepted text (λ p q d e m n h k. h ∙ sym k)) d e h k
one_due one apart same list sandbox agree files input (Some (Compile p)) w d e h k = cc
one_due one apart same list sandbox agree files input (Some (Exec i)) w d e h k =
    let P : Code → Outcome → Type 0 = λ code o. o ≡ run_outcome (run (machine_of code) input) in
    one_of_file (file_named i files) image_limit (bad_image (codes "size")) (λ bytes o. OfCode P (image_read bytes) o) (λ bytes. one_of_code P (λ code d e h k. h ∙ sym k) (image_read bytes)) d e h k
one_due one apart same list sandbox agree files input (Some (RunOf p)) w d e h k =
    one_of_file (file_named p files) package_limit (refused (codes "length")) (OfText Certified (IsRun input))
    (λ text. one_of_text one apart same Certified (IsRun input) text
    (λ p q d e m n h k. one_of_sandbox sandbox (λ s o. o ≡ run_outcome (run (sandbox_of s) input)) (one_run agree input) text p q d e m.prepared.is n.prepared.is h k)) d e h k
one_due one apart same list sandbox agree files input (Some (Listing p)) w d e h k =
    one_of_file (file_named p files) package_limit (refused (codes "length")) (OfText Split IsListed)
    (λ text. one_of_text one apart same Split IsListed text (one_list list text)) d e h k
one_due one apart same list sandbox agree files input (Some (Log p c)) w d e h k = h ∙ sym k
one_due one apart same list sandbox agree files input (Some (SelfTest seed rounds)) w d e h k = h ∙ sym k
one_due one apart same list sandbox agree files input (Some Demo) w d e h k = cc

-- two images that are due for one command
both_images : HasOneSandbox → AgreeWhereSame → (text : List ℕ) (p q : Package) (d e : Outcome) → IsPackage text p → IsPackage text q → IsCompiled text p d → IsCompiled text q e → AreAlike d e
both_images sandbox agree text p q d e m n h k = of h.3 k.3
  where
    same : SameParts h.1 k.1
    same = sandbox text p q h.0 k.0 h.1 k.1 m n h.2 k.2

    of : IsSizeRefusal h.1 d ⊎ (HasRoom h.1 × ((bytes : List ℕ) × IsImageOf text h.1 bytes × (d ≡ done bytes)))
        → IsSizeRefusal k.1 e ⊎ (HasRoom k.1 × ((bytes : List ℕ) × IsImageOf text k.1 bytes × (e ≡ done bytes))) → AreAlike d e
    of (inl a) (inl b) = inl (one_size h.1 k.1 d e same a b)
    of (inl a) (inr b) = absurd (no_room h.1 k.1 d same a b.0)
    of (inr a) (inl b) = absurd (no_room k.1 h.1 e (same_backwards h.1 k.1 same) b a.0)
    of (inr a) (inr b) =
        let x = a.1 in
        let y = b.1 in
        let i = x.1 in
        let j = y.1 in
        inr (i.code, j.code, sha256 text, x.2 ∙ ap done i.is, y.2 ∙ ap done j.is, one_image agree h.1 k.1 same i.code j.code i.runs_as j.runs_as)

-- of a text that is a package: what is due twice is alike
alike_of_text : HasOneRefusal → IsNotRefused → IsOnePackage → HasOneSandbox → AgreeWhereSame → (text : List ℕ) (d e : Outcome) → OfText Certified IsCompiled text d → OfText Certified IsCompiled text e → AreAlike d e
alike_of_text one apart same sandbox agree text d e (inl h) (inl k) =
    inl (one_line same text h.0 d e h.2 (subst (λ (r : Refusal). IsRefusal text r e) (sym (one Certified text h.0 k.0 h.1 k.1)) k.2))
alike_of_text one apart same sandbox agree text d e (inl h) (inr k) = absurd (apart Certified text k.0 h.0 k.1 h.1)
alike_of_text one apart same sandbox agree text d e (inr h) (inl k) = absurd (apart Certified text h.0 k.0 h.1 k.1)
alike_of_text one apart same sandbox agree text d e (inr h) (inr k) = both_images sandbox agree text h.0 k.0 d e h.1.prepared.is k.1.prepared.is h.2 k.2

alike_of_file : (found : Option (List ℕ)) (limit : ℕ) (long : Outcome) (P : List ℕ → Outcome → Type 0) → ((bytes : List ℕ) (d e : Outcome) → P bytes d → P bytes e → AreAlike d e)
    → (d e : Outcome) → IsSomeAnd found (λ bytes. MatchBool (nat_lt limit (length bytes)) (d ≡ long) (P bytes d)) → IsSomeAnd found (λ bytes. MatchBool (nat_lt limit (length bytes)) (e ≡ long) (P bytes e)) → AreAlike d e
alike_of_file None limit long P alike d e h k = absurd h
alike_of_file (Some bytes) limit long P alike d e h k = by (nat_lt limit (length bytes)) h k
  where
    by : (b : Bool) → MatchBool b (d ≡ long) (P bytes d) → MatchBool b (e ≡ long) (P bytes e) → AreAlike d e
    by true h k = inl (h ∙ sym k)
    by false h k = alike bytes d e h k

pub images_alike : HasOneRefusal → IsNotRefused → IsOnePackage → HasOneSandbox → AgreeWhereSame → (files : List NamedFile) (input : List ℕ) (command : Option Command) → writes_image command ≡ true
    → (d e : Outcome) → IsDue files input command d → IsDue files input command e → AreAlike d e
images_alike one apart same sandbox agree files input None w d e h k = cc
images_alike one apart same sandbox agree files input (Some (Check p)) w d e h k = cc
images_alike one apart same sandbox agree files input (Some (Compile p)) w d e h k =
    alike_of_file (file_named p files) package_limit (refused (codes "length")) (OfText Certified IsCompiled) (alike_of_text one apart same sandbox agree) d e h k
images_alike one apart same sandbox agree files input (Some (Exec i)) w d e h k = cc
images_alike one apart same sandbox agree files input (Some (RunOf p)) w d e h k = cc
images_alike one apart same sandbox agree files input (Some (Listing p)) w d e h k = cc
images_alike one apart same sandbox agree files input (Some (Log p c)) w d e h k = cc
images_alike one apart same sandbox agree files input (Some (SelfTest seed rounds)) w d e h k = cc
images_alike one apart same sandbox agree files input (Some Demo) w d e h k = alike_of_text one apart same sandbox agree tank d e h k
