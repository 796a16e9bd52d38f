use Rattle.std.proofs.Common.{◌≡◌, ◌≢◌, ◌∙◌, List, ℕ, inl, inr, sym, Ok, Err}
use Rattle.std.specs.Prelude.{Result, OnOk}
use Rattle.cube_seal.specs.Seals.{Agrees, seal_in, seal_line}
use Rattle.cube_seal.specs.declared.fault.SealFault.{SealFault}
use Rattle.cube_seal.specs.declared.reading.Said.TheVariants as said
use Rattle.cube_seal.proofs.SealBytes.{seals_are_lines}
use Rattle.cube_seal.proofs.seal.compare.Goals as goal

-- bytes that say something and agree are the line of these digits
line_of : (values bytes : List ℕ) → seal_in bytes ≢ said.Nothing → Agrees values bytes → bytes ≡ seal_line values
line_of values bytes some (inl e) = absurd (some e)
line_of values bytes some (inr e) = (seals_are_lines values bytes e).1

agreed_line : {T : Type 0} (values bytes now : List ℕ) (r : Result T SealFault) → now ≡ bytes → seal_in bytes ≢ said.Nothing → OnOk r (Agrees values bytes) → OnOk r (now ≡ seal_line values)
agreed_line values bytes now (Ok u) read some a = read ∙ line_of values bytes some a
agreed_line values bytes now (Err e) read some a = tt

pub returns-in-Sealed-clause-ok : goal.returns-in-Sealed-clause-ok
returns-in-Sealed-clause-ok g c = λ told. agreed_line c.args.values.now c.args.bytes.now _ c.agree.result (c.requires.bytes told) (λ e. let is = c.in-Sealed.is in let at = sym c.seal_in.ensures in cc) c.agree.ensures.agreed

pub returns-in-Damaged-clause-ok : goal.returns-in-Damaged-clause-ok
returns-in-Damaged-clause-ok g c = λ told. agreed_line c.args.values.now c.args.bytes.now _ c.agree-in-Damaged.result (c.requires.bytes told) (λ e. let is = c.in-Damaged.is in let at = sym c.seal_in.ensures in cc) c.agree-in-Damaged.ensures.agreed
