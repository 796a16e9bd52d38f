use Rattle.std.proofs.Common.{◌≡◌, ◌<◌, ℕ, List, ◌∙◌, ap, get_or, length, [], arith}
use Rattle.std.proofs.lemmas.List.{get_or_read}
use Rattle.cube_model.specs.Cubes.{distinct, place_of}
use Rattle.cube_model.specs.Dims.{AreNumbered}
use Rattle.cube_model.proofs.DimsFacts.{number_at_place, number_below, first_at_number, length-firsts, length-numbers}
use Rattle.cube_model.proofs.dims.NumberedNames.first_alike.Goals as goal

-- the number that is read, and the first place that is read behind it
number_read : (names kept : List (List ℕ)) (numbers firsts : List ℕ) (i n : ℕ) → AreNumbered names kept numbers firsts → i < length names → n ≡ get_or numbers i n → n ≡ place_of (get_or names i []) (distinct names)
number_read names kept numbers firsts i n s l e =
    let k = length-numbers names kept numbers firsts s in
    get_or_read numbers i n (omega (arith, k)) e 0 ∙ number_at_place names kept numbers firsts i s l

first_read : (names kept : List (List ℕ)) (numbers firsts : List ℕ) (i n m : ℕ) → AreNumbered names kept numbers firsts → i < length names → n ≡ get_or numbers i n → m ≡ get_or firsts n m → m ≡ place_of (get_or names i []) names
first_read names kept numbers firsts i n m s l e f =
    let a = number_read names kept numbers firsts i n s l e in
    let b = number_below names i l in
    let k = length-firsts names kept numbers firsts s in
    get_or_read firsts n m (omega (arith, a, b, k)) f 0 ∙ ap (λ j. get_or firsts j 0) a ∙ first_at_number names kept numbers firsts i s l

pub index-requires-2 : goal.index-requires-2
index-requires-2 c =
    let s = rw c.self.view_is at c.self.invariant in
    let a = number_read _ _ _ _ c.args.place c.index.result.now s c.requires c.index.ensures in
    let b = number_below c.args.self.now c.args.place c.requires in
    let k = length-firsts _ _ _ _ s in
    omega (arith, a, b, k)

pub returns : goal.returns
returns c =
    let s = rw c.self.view_is at c.self.invariant in
    first_read _ _ _ _ c.args.place c.index.result.now c.index-2.result.now s c.requires c.index.ensures c.index-2.ensures
