-- Where each record is replied to as the sandbox does, code and sandbox agree.
use Rattle.std.proofs.Common.{◌≡◌, ℕ, List, [], ◌∷◌, length, false, IfSome, refl, sym, ap, ◌∙◌, subst}
use Rattle.std.specs.Prelude.{ℤ, pos, replicate, IsSomeAnd}
use Rattle.std.proofs.lemmas.List.{length-replicate}
use Rattle.vp_words.specs.declared.record.Counts.{Counts}
use Rattle.vp_words.specs.declared.record.Kind.{Kind}
use Rattle.vp_words.specs.declared.record.Due.{Due}
use Rattle.vp_words.specs.declared.record.Due.TheVariants as due
use Rattle.vp_words.specs.declared.record.Reply.{Reply}
use Rattle.vp_words.specs.Exchanges.{Agree, AreDue, Exchange, IsRecordOf, exchanged_onto, exchanges, state_after}
use Rattle.vp_words.specs.Record.{field_count, kind_due}
use Rattle.vp_isa.specs.declared.code.Code.{Code}
use Rattle.vp_isa.specs.Valid.{IsValid}
use Rattle.vp_isa.specs.Answering.{machine_of}
use Rattle.vp_isa.specs.Runs.{ComesToStop}
use Rattle.vp_isa.specs.Machine.{MachineState, answer, due_at, due_of, fresh, HasDueCount, IsReady, IsStanding, replied, step}
use Rattle.vp_interval.specs.Rounding.{Ends}
use Rattle.vp_sandbox.specs.declared.sandbox.Sandbox.{Sandbox}
use Rattle.vp_sandbox.specs.Sandbox.{State}
use Rattle.vp_sandbox.specs.Answer.{answered, sandbox_of, start}
use Rattle.vp_layout.proofs.Machines.{Answers}
use Rattle.vp_layout.specs.Ties.{RepliesToAll, Stands, Takes, Tied}
use Rattle.vp_layout.proofs.HomeLaws.{first_boxes, first_zero}

-- what is due is the same
tied_due : (code : Code) (sense : ℕ) (d : Due) (boxes : List Ends) (m : MachineState) → Takes code sense → Tied code sense d boxes m → due_of code m ≡ d
tied_due code sense due.Init boxes m t s = rw s.is (ap due_at t.init.0)
tied_due code sense due.Choice boxes m t s = rw s.is (ap due_at t.choice.0)
tied_due code sense due.Sense boxes m t s = rw s.is (ap due_at t.sensing.0)
tied_due code sense due.Ended boxes m t s = rw s refl

-- a machine that has something due goes on
tied_going : (code : Code) (sense : ℕ) (d : Due) (boxes : List Ends) (m : MachineState) (P : Kind → Type 0) → Tied code sense d boxes m → IsSomeAnd (kind_due d) P → m.ended ≡ false
tied_going code sense due.Init boxes m P s h = ap (λ (n : MachineState). n.ended) s.is
tied_going code sense due.Choice boxes m P s h = ap (λ (n : MachineState). n.ended) s.is
tied_going code sense due.Sense boxes m P s h = ap (λ (n : MachineState). n.ended) s.is
tied_going code sense due.Ended boxes m P s h = absurd h

counted : (n : Counts) (d : Due) (words : List ℤ) → IsSomeAnd (kind_due d) (λ kind. IsRecordOf n kind words) → IsSomeAnd (kind_due d) (λ kind. length words ≡ field_count kind n)
counted n due.Init words h = h.count
counted n due.Choice words h = h.count
counted n due.Sense words h = h.count
counted n due.Ended words h = absurd h

due_count : (n : Counts) (d : Due) (words : List ℤ) → IsSomeAnd (kind_due d) (λ kind. IsRecordOf n kind words) → IfSome (kind_due d) (λ kind. length words ≡ field_count kind n)
due_count n due.Init words h = h.count
due_count n due.Choice words h = h.count
due_count n due.Sense words h = h.count
due_count n due.Ended words h = absurd h

exchange_same : (words : List ℤ) {d e : Due} {r q : Reply} {xs ys : List Exchange} → d ≡ e → r ≡ q → xs ≡ ys → exchanged_onto (kind_due d) words r xs ≡ exchanged_onto (kind_due e) words q ys
exchange_same words {d} {e} {r} {q} {xs} {ys} f g h =
    ap (λ k. exchanged_onto (kind_due k) words r xs) f ∙ ap (λ t. exchanged_onto (kind_due e) words t xs) g ∙ ap (exchanged_onto (kind_due e) words q) h

module _ (law : Answers) (s : Sandbox) (code : Code) (sense : ℕ) (valid : IsValid code) (takes : Takes code sense) (all : RepliesToAll s code sense) where
  -- what holds over a list of records
  record Same (m : MachineState) (st : State) (records : List (List ℤ)) : Type 0 where
    replies : exchanges (machine_of code) m records ≡ exchanges (sandbox_of s) st records
    dues : due_of code (state_after (machine_of code) m records) ≡ (state_after (sandbox_of s) st records).due

  same : (records : List (List ℤ)) (m : MachineState) (st : State) → IsStanding code m → Tied code sense st.due st.boxes m → AreDue (machine_of code) m records → Same m st records
  same [] m st stands t h = record { replies = refl; dues = tied_due code sense st.due st.boxes m takes t }
  same (words ∷ more) m st stands t h =
      let is_due : due_of code m ≡ st.due = tied_due code sense st.due st.boxes m takes t in
      let now : IsSomeAnd (kind_due st.due) (λ kind. IsRecordOf code.counts kind words) = subst (λ d. IsSomeAnd (kind_due d) (λ kind. IsRecordOf code.counts kind words)) is_due h.0 in
      let r = all st m words t (counted code.counts st.due words now) in
      let ready : IsReady code m = record { valid = valid; stands = stands; going = tied_going code sense st.due st.boxes m _ t now } in
      let to : ComesToStop code (step code words m) r.last = record { comes = r.comes; stop = r.stop } in
      let reply : (answer code words m).reply ≡ (answered s st words).reply = law.reply code words m r.last ready to ∙ r.reply in
      let next : (answer code words m).next ≡ replied r.last = law.next code words m r.last ready to in
      let after = (answered s st words).next in
      let tied : Tied code sense after.due after.boxes (answer code words m).next = subst (λ n. Tied code sense after.due after.boxes n) (sym next) r.tied in
      let count : HasDueCount code m words = due_count code.counts (due_of code m) words h.0 in
      let rest = same more (answer code words m).next after (law.stands code words m ready count) tied h.1 in
      record { replies = exchange_same words is_due reply rest.replies; dues = rest.dues }

  pub agrees : code.counts ≡ s.counts → Agree (machine_of code) (sandbox_of s)
  agrees counts =
      let first : Stands code 0 start.boxes (fresh code) = record {
        cells = replicate code.cells (pos 0);
        is = refl;
        keeping = record {
          long = length-replicate code.cells (pos 0);
          zero_is = first_zero code.cells 64;
          held = first_boxes code.cells code.counts valid.counts;
        };
      } in
      let each = λ (records : List (List ℤ)) (h : AreDue (machine_of code) (fresh code) records). same records (fresh code) start (law.new code valid) first h in
      record {
        counts = counts;
        replies = λ records h. (each records h).replies;
        due = λ records h. (each records h).dues;
      }
