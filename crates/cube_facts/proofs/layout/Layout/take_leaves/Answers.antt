use Rattle.std.proofs.Common.{◌≡◌, ℕ, List, [], subst, ◌∙◌, ap, sym, ◌<◌, arith, ◌≤◌, length, map, get_or, Some}
use Rattle.std.proofs.lemmas.List.{take_all, get_or_default}
use Rattle.csv.specs.Records.{fields_of}
use Rattle.cube_model.specs.Dims.{NamedDimension}
use Rattle.cube_facts.specs.FactFile.{leaf_of, field_in}
use Rattle.cube_facts.specs.Tags.{HasTags}
use Rattle.cube_facts.proofs.Recorded.{dimension_column}
use Rattle.cube_facts.proofs.Turns.{said_more}
use Rattle.cube_facts.proofs.layout.Layout.take_leaves.Goals as goal

pub find_recent-requires : goal.find_recent-requires
find_recent-requires c =
    let s = c.args.self.now.dims.now in
    let tags = c.args.self.now.tags in
    let i = c.loop-number.number in
    let d = c.dimension-item.result in
    let r = c.index-as_slice-number.result in
    let tagged = c.args.self.now.tagged in
    let items = c.dimensions-dimension-items.ensures.dimensions in
    let long = ap length items in
    let l : i < length s.dimensions = omega (arith, long, c.loop-number-test.true) in
    let below : i < length tags = omega (arith, l, tagged.long) in
    let at : d ≡ get_or s.dimensions i d = c.dimension-item.is ∙ ap (λ xs. get_or xs i d) items in
    let own : c.as_slice-tags.result.now ≡ get_or tags i [] = c.as_slice-tags.ensures ∙ c.index-as_slice-number.is ∙ ap (λ (ts : List (List ℕ)). get_or ts i r) c.as_slice.ensures ∙ get_or_default tags i r [] below in
    subst (HasTags d) (sym own) (subst (λ (e : NamedDimension). HasTags e (get_or tags i [])) (sym at) (tagged.each i d l))

pub loop-number-preserved : goal.loop-number-preserved
loop-number-preserved c =
    let s = c.args.self.now.dims.now in
    let header = c.args.self.now.header in
    let fields = fields_of c.args.row.now in
    let i = c.loop-number.number in
    let d = c.dimension-item.result in
    let items = c.dimensions-dimension-items.ensures.dimensions in
    let long = ap length items in
    let l : i < length s.dimensions = omega (arith, long, c.loop-number-test.true) in
    let at = c.dimension-item.is ∙ ap (λ xs. get_or xs i d) items in
    let column = c.field_under-name.ensures ∙ ap (field_in header fields) (dimension_column s i d l at) in
    let leaf = sym (sym c.in-Some.is ∙ c.find_recent.ensures ∙ ap (leaf_of d) column) in
    said_more (λ d. leaf_of d (field_in header fields d.column)) Some s.dimensions i d c.loop-number.leaves.items c.push.new.self.items c.in-Some.leaf l at c.loop-number.invariant leaf c.in_ok-push.ensures.items

pub returns : goal.returns
returns c = λ whole. (
    let s = c.args.self.now.dims.now in
    let header = c.args.self.now.header in
    let fields = fields_of c.args.row.now in
    let long = ap length c.dimensions-dimension-items.ensures.dimensions in
    let all : length s.dimensions ≤ c.loop-number.number = omega (arith, long, c.loop-number-test.false) in
    ap (map (λ d. leaf_of d (field_in header fields d.column))) (sym (take_all c.loop-number.number s.dimensions all)) ∙ c.loop-number.invariant)
