use Rattle.std.proofs.Common.{◌<◌, ◌+◌, length, sym, ap, ap₂, ◌∙◌, arith, drop}
use Rattle.cube_words.specs.Drafting.{is_flag, is_free, is_wrong_value, added, said_from}
use Rattle.cube_words.specs.declared.drafting.Begun.{Begun}
use Rattle.cube_words.proofs.Drafted.{flag_step, pair_step, unfree_step}
use Rattle.cube_words.proofs.drafting.read_words.Goals as goal

pub words-preserved-then-is_flag : goal.words-preserved-then-is_flag
words-preserved-then-is_flag c =
    let words = c.args.words.now in
    let flag = ap (is_flag c.words.begun) (sym c.as_slice-word.ensures) ∙ sym c.is_flag.ensures ∙ c.if-is_flag.true in
    (omega (arith, c.words-test.true), sym (flag_step words c.words.begun c.words.at c.index-words-at.result (omega (arith, c.words-test.true)) c.index-words-at.is flag) ∙ c.words.invariant.1)

pub returns-then-not-is_free : goal.returns-then-not-is_free
returns-then-not-is_free c =
    let words = c.args.words.now in
    let word = sym c.as_slice-word.ensures in
    let flag = ap (is_flag c.words.begun) word ∙ sym c.is_flag.ensures ∙ c.if-is_flag.false in
    let free = ap (is_free c.words.begun) word ∙ sym c.is_free.ensures ∙ c.if-not-is_free.true in
    sym (unfree_step words c.words.begun c.words.at c.index-words-at.result (omega (arith, c.words-test.true)) c.index-words-at.is flag free) ∙ c.words.invariant.1

pub words-preserved : goal.words-preserved
words-preserved c =
    let words = c.args.words.now in
    let word = sym c.as_slice-word.ensures in
    let value = sym c.as_slice-value.ensures in
    let some : c.words.at + 1 < length words = omega (arith, c.words-test.true, c.if-at-words.false) in
    let flag = ap (is_flag c.words.begun) word ∙ sym c.is_flag.ensures ∙ c.if-is_flag.false in
    let free = ap (is_free c.words.begun) word ∙ sym c.is_free.ensures ∙ c.if-not-is_free.false in
    let good = ap₂ is_wrong_value word value ∙ sym c.is_wrong_value.ensures ∙ c.if-is_wrong_value.false in
    let step = pair_step words c.words.begun c.words.at c.index-words-at.result c.index-words-at-else-at-words.result some c.index-words-at.is c.index-words-at-else-at-words.is flag free good in
    let is = c.in_ok-begun.ensures ∙ ap₂ (added c.words.begun) c.as_slice-word.ensures c.as_slice-value.ensures in
    (omega (arith, some), ap (λ (b : Begun). said_from b (c.words.at + 2 + 1) (drop (c.words.at + 2) words)) is ∙ sym step ∙ c.words.invariant.1)
