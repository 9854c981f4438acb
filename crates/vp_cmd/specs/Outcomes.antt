-- Outcomes of commands: a status, and the bytes that are printed under it.
use Rattle.std.specs.Prelude.{ℕ, ◌++◌, List, [], codes, slice_get, unwrap_or}
use Rattle.std.specs.Fmt.{decimal, signed_decimal}
use Rattle.vp_terms.specs.declared.package.Names.{Names}
use Rattle.vp_terms.specs.declared.package.Part.{Part}
use Rattle.vp_gen.specs.declared.generate.GenErr.{GenErr}
use Rattle.vp_gen.specs.declared.generate.GenErr.TheVariants as gen
use Rattle.vp_cert.specs.declared.error.CertErr.{CertErr}
use Rattle.vp_cert.specs.declared.error.CertErr.TheVariants as cert
use Rattle.vp_cert.specs.declared.error.CertWhy.{CertWhy}
use Rattle.vp_cert.specs.declared.error.CertWhy.TheVariants.{Missing, Wrong}
use Rattle.vp_monitor.specs.declared.error.MonErr.{MonErr}
use Rattle.vp_monitor.specs.declared.error.MonErr.TheVariants as monitor
use Rattle.vp_monitor.specs.declared.error.Place.{Place}
use Rattle.vp_monitor.specs.declared.error.Place.TheVariants as at
use Rattle.vp_synth.specs.Listing.{part_text}
use Rattle.vp_synth.specs.Printing.{joined_by, monomial_text, variable_names}
use Rattle.vp_synth.specs.declared.refusal.Refusal.{Refusal}
use Rattle.vp_synth.specs.declared.refusal.Refusal.TheVariants as refusal
use Rattle.vp_isa.specs.declared.code.CheckErr.{CheckErr}
use Rattle.vp_isa.specs.declared.code.CheckErr.TheVariants as check
use Rattle.vp_image.specs.declared.image.ImageErr.{ImageErr}
use Rattle.vp_image.specs.declared.image.ImageErr.TheVariants as image
use Rattle.vp_read.specs.declared.fault.ReadErr.{ReadErr}
use Rattle.vp_read.specs.declared.fault.ReadErr.TheVariants as fault
use Rattle.vp_stream.specs.declared.verdict.Verdict.{Verdict}
use Rattle.vp_stream.specs.declared.verdict.Verdict.TheVariants as verdict
use Rattle.vp_stream.specs.Run.{Run}
use Rattle.vp_cmd.specs.declared.status.Status.{Status}
use Rattle.vp_cmd.specs.declared.status.Status.TheVariants.{Done, Usage, Refused, Violation, BadLine, BadImage, TooMuch}

-- a status, and the bytes that are printed under it
pub record Outcome : Type 0 where
  pub status : Status
  pub text : List ℕ

-- ---- words that are no command

abbrev pub usage_line : List ℕ
usage_line = codes "usage: vphy check P | compile P | exec I | run P | list P | log P C | selftest SEED N | demo\n"

abbrev pub usage : Outcome
usage = record { status = Usage; text = usage_line }

-- ---- packages

abbrev pub accepted : Outcome
accepted = record { status = Done; text = codes "accepted\n" }

-- a listing, or an image
abbrev pub done : List ℕ → Outcome
done text = record { status = Done; text = text }

-- ---- refusals

abbrev pub refused : List ℕ → Outcome
refused why = record { status = Refused; text = codes "refused " ++ why ++ codes "\n" }

abbrev pub bad_image : List ℕ → Outcome
bad_image why = record { status = BadImage; text = codes "bad image " ++ why ++ codes "\n" }

-- words and a number
abbrev pub place_text : List ℕ → ℕ → List ℕ
place_text words at = words ++ decimal at

-- why a text is no package; want of memory prints nothing
abbrev pub read_text : ReadErr → List ℕ
read_text (fault.Lex at) = place_text (codes "lex ") at
read_text (fault.Number at) = place_text (codes "number ") at
read_text (fault.Deep piece) = place_text (codes "deep ") piece
read_text (fault.Section piece) = place_text (codes "section ") piece
read_text (fault.Names count) = place_text (codes "names ") count
read_text (fault.Twice name) = codes "twice " ++ name
read_text (fault.Entries piece count) = place_text (codes "entries ") piece ++ place_text (codes " ") count
read_text (fault.Undeclared name piece) = codes "undeclared " ++ name ++ place_text (codes " ") piece
read_text fault.Memory = []

-- the name with a number, from 0
abbrev pub name_at : List (List ℕ) → ℕ → List ℕ
name_at names i = unwrap_or (slice_get names i) []

-- where an expression is over
abbrev pub wide_text : Names → Place → List ℕ
wide_text names at.Init = codes "init"
wide_text names at.Inv = codes "inv"
wide_text names at.Safe = codes "safe"
wide_text names at.Ctrl = codes "ctrl"
wide_text names (at.Flow i) = codes "flow " ++ name_at names.states i
wide_text names at.Time = codes "time"
wide_text names (at.Slack i) = codes "slack " ++ name_at names.states i
wide_text names at.Domain = codes "domain"
wide_text names (at.Fallback k) = codes "fallback " ++ name_at names.controls k

-- why a package with these names has no monitors or no obligations; want of memory prints nothing
abbrev pub monitor_text : Names → MonErr → List ℕ
monitor_text names (monitor.Wide place) = codes "wide " ++ wide_text names place
monitor_text names (monitor.Paths count) = place_text (codes "paths ") count
monitor_text names (monitor.Hidden name) = codes "hidden " ++ name
monitor_text names (monitor.NotLinear name) = codes "notlinear " ++ name
monitor_text names (monitor.Cycle states) = codes "cycle " ++ joined_by (codes " ") states
monitor_text names (monitor.Fraction name) = codes "fraction " ++ name
monitor_text names (monitor.Cases part count) = codes "cases " ++ part_text part ++ place_text (codes " ") count
monitor_text names monitor.Memory = []

-- why a certificate is wrong; want of memory prints nothing
abbrev pub wrong_text : Names → CertErr → List ℕ
wrong_text names cert.Label = codes "label"
wrong_text names cert.NotStrict = codes "notstrict"
wrong_text names cert.Wide = codes "wide"
wrong_text names (cert.NotZero monomial coefficient) =
    codes "notzero " ++ monomial_text (variable_names names) monomial.powers ++ codes " " ++ signed_decimal coefficient
wrong_text names cert.Memory = []

-- why the certificate of a case isn't taken
abbrev pub why_text : Names → CertWhy → List ℕ
why_text names Missing = codes "missing"
why_text names (Wrong e) = wrong_text names e

abbrev pub cert_text : Names → Part → ℕ → CertWhy → List ℕ
cert_text names part number why =
    codes "cert " ++ part_text part ++ place_text (codes " ") number ++ codes " " ++ why_text names why

-- why a package with these names is refused; want of memory prints nothing
abbrev pub refusal_text : Names → Refusal → List ℕ
refusal_text names (refusal.Read e) = read_text e
refusal_text names (refusal.Monitor e) = monitor_text names e
refusal_text names (refusal.Cert part number why) = cert_text names part number why
refusal_text names refusal.Extra = codes "cert extra"
refusal_text names refusal.Memory = []

-- which size of a sandbox passes its limit; want of memory prints nothing
abbrev pub size_text : GenErr → List ℕ
size_text (gen.Long count) = place_text (codes "long ") count
size_text (gen.Cells count) = place_text (codes "cells ") count
size_text gen.Memory = []

-- which rule a code breaks
abbrev pub check_text : CheckErr → List ℕ
check_text check.Size = codes "size"
check_text (check.Shape at) = place_text (codes "shape ") at
check_text (check.Cell at) = place_text (codes "cell ") at
check_text (check.Target at) = place_text (codes "target ") at
check_text (check.Back at) = place_text (codes "back ") at
check_text check.Fall = codes "fall"

-- why bytes are no image; want of memory prints nothing
abbrev pub image_text : ImageErr → List ℕ
image_text image.Magic = codes "magic"
image_text (image.Version n) = place_text (codes "version ") n
image_text image.Length = codes "length"
image_text image.Digest = codes "digest"
image_text (image.Instr at) = place_text (codes "instr ") at
image_text (image.Check why) = codes "check " ++ check_text why
image_text image.Memory = []

-- ---- runs

abbrev pub status_of : Verdict → Status
status_of verdict.Done = Done
status_of verdict.Violated = Violation
status_of verdict.BadLine = BadLine
status_of verdict.TooMuch = TooMuch

-- the outcome of a run over an input
abbrev pub run_outcome : Run → Outcome
run_outcome r = record { status = status_of r.verdict; text = r.text }
