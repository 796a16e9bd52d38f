use Rattle.std.proofs.Common.{◌≡◌, ℕ, List, true, sym, subst, rules}
use Rattle.hex.specs.Hex.{encode_lower}
use Rattle.cube_journal.specs.Digests.{is_digest}
use Rattle.cube_journal.proofs.Digits.{are_digits}
use Rattle.cube_journal.proofs.digest.digits_of.Goals as goal

pub returns-clause-lower : goal.returns-clause-lower
returns-clause-lower c =
    let e : c.encode_to_slice.new.output ≡ encode_lower c.args.bytes.now = search rules in
    subst (λ (l : List ℕ). is_digest l ≡ true) (sym e) (are_digits c.args.bytes.now c.fits-bytes c.told-bytes)
