use Rattle.std.proofs.Common.{◌≡◌, [], true, get_or, length, ap, sym, ◌∙◌}
use Rattle.std.specs.List.{list_all}
use Rattle.cube_model.specs.Checks.{unless}
use Rattle.cube_model.specs.Names.{is_name}
use Rattle.cube_model.proofs.DimsFacts.{members_read}
use Rattle.cube_dims.proofs.Accepted.{are_hierarchy}
use Rattle.cube_dims.proofs.PathChecks.{path_read, leaf_told, leaf_twice, two_parents, no_fault}
use Rattle.cube_dims.proofs.paths.check_path.Goals as goal

pub has_two_parents-requires-clause-earlier : goal.has_two_parents-requires-clause-earlier
has_two_parents-requires-clause-earlier c = are_hierarchy c.args.entry.now _ _ c.requires.earlier

pub returns-then-stood_before : goal.returns-then-stood_before
returns-then-stood_before c =
    let d = c.args.parts.now in
    let i = c.args.leaf in
    let path = path_read d.paths c.paths.result.now c.index-paths-leaf.result i c.paths.ensures c.requires.leaf c.index-paths-leaf.is in
    let even : length (get_or d.paths i []) ≡ length d.levels = sym (ap length path) ∙ sym c.len.ensures ∙ c.if-len-levels.false ∙ ap length c.levels.ensures in
    let names : list_all is_name (get_or d.paths i []) ≡ true = ap (list_all is_name) (sym path) ∙ sym (c.are_names.ensures ∙ ap (list_all is_name) c.as_slice.ensures) ∙ c.if-not-are_names.false in
    let finest = members_read d c.args.members.now 0 c.index-members-0.result c.requires.members c.requires.levels c.index-members-0.is in
    let told = leaf_told d c.index-members-0.result i c.stood_before.result finest c.requires.leaf c.stood_before.ensures in
    leaf_twice c.args.entry.now (length d.levels) d.paths i c.requires.leaf c.in_ok-item_text-3.field-0 c.in_ok-item_text-3.ensures even names (told ∙ c.if-stood_before.true)

pub returns-then-has_two_parents : goal.returns-then-has_two_parents
returns-then-has_two_parents c =
    let d = c.args.parts.now in
    let i = c.args.leaf in
    let path = path_read d.paths c.paths.result.now c.index-paths-leaf.result i c.paths.ensures c.requires.leaf c.index-paths-leaf.is in
    let even : length (get_or d.paths i []) ≡ length d.levels = sym (ap length path) ∙ sym c.len.ensures ∙ c.if-len-levels.false ∙ ap length c.levels.ensures in
    let names : list_all is_name (get_or d.paths i []) ≡ true = ap (list_all is_name) (sym path) ∙ sym (c.are_names.ensures ∙ ap (list_all is_name) c.as_slice.ensures) ∙ c.if-not-are_names.false in
    let finest = members_read d c.args.members.now 0 c.index-members-0.result c.requires.members c.requires.levels c.index-members-0.is in
    let told = leaf_told d c.index-members-0.result i c.stood_before.result finest c.requires.leaf c.stood_before.ensures in
    two_parents c.args.entry.now (length d.levels) d.paths i c.requires.leaf c.in_ok-item_text-4.field-0 c.in_ok-item_text-4.ensures even names (told ∙ c.if-stood_before.false) (sym c.has_two_parents.ensures ∙ c.if-has_two_parents.true)

pub returns : goal.returns
returns c =
    let d = c.args.parts.now in
    let i = c.args.leaf in
    let path = path_read d.paths c.paths.result.now c.index-paths-leaf.result i c.paths.ensures c.requires.leaf c.index-paths-leaf.is in
    let even : length (get_or d.paths i []) ≡ length d.levels = sym (ap length path) ∙ sym c.len.ensures ∙ c.if-len-levels.false ∙ ap length c.levels.ensures in
    let names : list_all is_name (get_or d.paths i []) ≡ true = ap (list_all is_name) (sym path) ∙ sym (c.are_names.ensures ∙ ap (list_all is_name) c.as_slice.ensures) ∙ c.if-not-are_names.false in
    let finest = members_read d c.args.members.now 0 c.index-members-0.result c.requires.members c.requires.levels c.index-members-0.is in
    let told = leaf_told d c.index-members-0.result i c.stood_before.result finest c.requires.leaf c.stood_before.ensures in
    ap (λ fs. unless fs (tt {0})) (no_fault c.args.entry.now (length d.levels) d.paths i c.requires.leaf even names (told ∙ c.if-stood_before.false) (sym c.has_two_parents.ensures ∙ c.if-has_two_parents.false))
