use Rattle.std.proofs.Common.{rules, ◌≡◌, map, subst}
use Rattle.std.specs.Prelude.{IfOk}
use Rattle.std.specs.List.{slice_split}
use Rattle.std.proofs.lemmas.Iterator.Consumers.{map_from_collect}
use Rattle.std.proofs.lemmas.Iterator.Splits.{YieldsList-from_slice_split}
use Rattle.cube_words.specs.Drafting.{is_comma}
use Rattle.cube_words.proofs.drafting.parts_of.Goals as goal

pub returns : goal.returns
returns c =
    let x = c.split.ensures in
    let all = map_from_collect c.collect.result c.collect.ensures.ran (YieldsList-from_slice_split _ is_comma c.args.text.now x.rest x.done x.closure (λ a b q k. search rules)) in
    subst (λ r. IfOk r (λ w. map (λ x. x.now) w.items ≡ slice_split is_comma c.args.text.now)) c.in_ok-collect.was all
