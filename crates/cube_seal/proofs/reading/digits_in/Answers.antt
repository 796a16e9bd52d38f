use Rattle.std.proofs.Common.{take, sym, ◌∙◌, ap, arith, List, ℕ}
use Rattle.std.proofs.lemmas.List.{take_all}
use Rattle.cube_seal.proofs.reading.digits_in.Goals as goal

pub returns-then-behind-lt64 : goal.returns-then-behind-lt64
returns-then-behind-lt64 c =
    sym (ap (λ (l : List ℕ). take 64 l) (sym c.behind_word-behind.ensures) ∙ take_all 64 c.behind_word-behind.result.now (omega (arith, c.if-behind-lt64.true)))
