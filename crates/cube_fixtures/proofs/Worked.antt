-- The cubes of the tests keep the rules.
use Rattle.std.proofs.Common.{◌≡◌, ℕ, zero, suc, ◌<◌, ◌≤◌, List, [], ◌∷◌, ◌++◌, refl, sym, ap, ap₂, subst, ◌∙◌, arith, ltb, true, length, map, codes, ℤ, pos}
use Rattle.std.proofs.lemmas.Int.{ints}
use Rattle.std.proofs.lemmas.Bool.{lt-ltb}
use Rattle.std.specs.Fmt.{digits}
use Rattle.std.specs.List.{AllByRecursion}
use Rattle.std.specs.Str.{is_utf8, chars}
use Rattle.cube_model.specs.Names.{is_name, is_level_name, is_measure_name}
use Rattle.cube_model.specs.Cores.{Core, IsCore, IsSumOf, AreSumsOf}
use Rattle.cube_model.specs.Cubes.{up, IsHierarchy}
use Rattle.cube_model.specs.Dims.{Dims, NamedDimension, IsDimension, IsMeasure, IsDims, plain}
use Rattle.cube_fixtures.specs.Worked.{region, time, day, row, column, measure, pay_core, pay_cube, full_core, day_core, some_fields, all_fields}

-- with two levels each member has one parent, since leaves are told apart
two_levels : (d : NamedDimension) → length d.levels ≡ 2 → IsHierarchy (plain d)
unfolding up
two_levels d a zero x y l h k e = ap (up (plain d) 1) (leaf x ∙ e ∙ sym (leaf y))
  where
    leaf : (z : ℕ) → z ≡ up (plain d) 0 z
    leaf z = let t : ltb 0 (length d.levels) ≡ true = lt-ltb 0 (length d.levels) (omega (arith, a)) in rw t refl
two_levels d a (suc n) x y l h k e = absurd (omega (arith, a, l))

pub is_region : IsDimension region
unfolding is_name is_level_name is_utf8 chars digits lib.Utf8.encode
is_region = record {
  name = refl;
  column = refl;
  has_levels = omega arith;
  few_levels = omega arith;
  level_names = refl;
  distinct_levels = refl;
  has_leaves = omega arith;
  few_leaves = omega arith;
  even = refl;
  member_names = refl;
  distinct_leaves = refl;
  one_parent = two_levels region refl;
}

pub is_time : IsDimension time
unfolding is_name is_level_name is_utf8 chars digits lib.Utf8.encode
is_time = record {
  name = refl;
  column = refl;
  has_levels = omega arith;
  few_levels = omega arith;
  level_names = refl;
  distinct_levels = refl;
  has_leaves = omega arith;
  few_leaves = omega arith;
  even = refl;
  member_names = refl;
  distinct_leaves = refl;
  one_parent = two_levels time refl;
}

pub is_pay : IsMeasure (measure (codes "pay"))
unfolding is_name is_measure_name is_utf8 chars digits lib.Utf8.encode
is_pay = record { name = refl; column = refl; few_decimals = omega arith }

pub is_hours : IsMeasure (measure (codes "hours"))
unfolding is_name is_measure_name is_utf8 chars digits lib.Utf8.encode
is_hours = record { name = refl; column = refl; few_decimals = omega arith }

pub is_pay_dims : IsDims pay_core.dims
is_pay_dims = record {
  each_dimension = (is_region, (is_time, tt));
  each_measure = (is_pay, (is_hours, tt));
  has_dimensions = omega arith;
  few_dimensions = omega arith;
  has_measures = omega arith;
  few_measures = omega arith;
  few_cuboids = omega arith;
  distinct_dimensions = refl;
  distinct_measures = refl;
  distinct_columns = refl;
}

small : (n : ℕ) (v : ℕ) → 0 < n → v ≤ 1000000000000 → IsSumOf n (pos v)
small n v h l = (omega (arith, ints, h, l), omega (arith, ints, h, l))

pub is_pay_core : IsCore pay_core
is_pay_core = record {
  dims = is_pay_dims;
  points = ((omega arith, (omega arith, tt)), ((omega arith, (omega arith, tt)), ((omega arith, (omega arith, tt)), ((omega arith, (omega arith, tt)), ((omega arith, (omega arith, tt)), tt)))));
  increasing = (refl, (refl, (refl, (refl, (refl, tt)))));
  few_points = omega arith;
  facts = refl;
  counted = (omega arith, (omega arith, (omega arith, (omega arith, (omega arith, tt)))));
  few_facts = omega arith;
  measures = refl;
  values = (refl, (refl, tt));
  bounded = (pay, (hours, tt));
}
  where
    pay : AreSumsOf (1 ∷ 1 ∷ 1 ∷ 1 ∷ 2 ∷ []) (pos 10 ∷ pos 20 ∷ pos 30 ∷ pos 40 ∷ pos 50 ∷ [])
    pay zero l = small 1 10 (omega arith) (omega arith)
    pay (suc zero) l = small 1 20 (omega arith) (omega arith)
    pay (suc (suc zero)) l = small 1 30 (omega arith) (omega arith)
    pay (suc (suc (suc zero))) l = small 1 40 (omega arith) (omega arith)
    pay (suc (suc (suc (suc zero)))) l = small 2 50 (omega arith) (omega arith)
    pay (suc (suc (suc (suc (suc n))))) l = absurd (omega (arith, l))

    hours : AreSumsOf (1 ∷ 1 ∷ 1 ∷ 1 ∷ 2 ∷ []) (pos 1 ∷ pos 2 ∷ pos 3 ∷ pos 4 ∷ pos 5 ∷ [])
    hours zero l = small 1 1 (omega arith) (omega arith)
    hours (suc zero) l = small 1 2 (omega arith) (omega arith)
    hours (suc (suc zero)) l = small 1 3 (omega arith) (omega arith)
    hours (suc (suc (suc zero))) l = small 1 4 (omega arith) (omega arith)
    hours (suc (suc (suc (suc zero)))) l = small 2 5 (omega arith) (omega arith)
    hours (suc (suc (suc (suc (suc n))))) l = absurd (omega (arith, l))

-- values of one fact each
ones : (values : List ℕ) → AllByRecursion (λ v. v ≤ 1000000000000) values → AreSumsOf (map (λ v. 1) values) (map pos values)
ones [] h i l = absurd (omega (arith, l))
ones (v ∷ values) h zero l = small 1 v (omega arith) h.0
ones (v ∷ values) h (suc i) l = ones values h.1 i (omega (arith, l))

pub is_pay_cube : IsCore pay_cube
is_pay_cube = record {
  dims = is_pay_dims;
  points = is_pay_core.points;
  increasing = is_pay_core.increasing;
  few_points = omega arith;
  facts = refl;
  counted = (omega arith, (omega arith, (omega arith, (omega arith, (omega arith, tt)))));
  few_facts = omega arith;
  measures = refl;
  values = (refl, (refl, tt));
  bounded = (ones (10 ∷ 20 ∷ 30 ∷ 40 ∷ 50 ∷ []) (omega arith, (omega arith, (omega arith, (omega arith, (omega arith, tt))))), (ones (1 ∷ 2 ∷ 3 ∷ 4 ∷ 5 ∷ []) (omega arith, (omega arith, (omega arith, (omega arith, (omega arith, tt))))), tt));
}

pub is_full_core : IsCore full_core
is_full_core = record {
  dims = is_pay_dims;
  points = ((omega arith, (omega arith, tt)), ((omega arith, (omega arith, tt)), ((omega arith, (omega arith, tt)), ((omega arith, (omega arith, tt)), ((omega arith, (omega arith, tt)), ((omega arith, (omega arith, tt)), tt))))));
  increasing = (refl, (refl, (refl, (refl, (refl, (refl, tt))))));
  few_points = omega arith;
  facts = refl;
  counted = (omega arith, (omega arith, (omega arith, (omega arith, (omega arith, (omega arith, tt))))));
  few_facts = omega arith;
  measures = refl;
  values = (refl, (refl, tt));
  bounded = (ones (1 ∷ 2 ∷ 3 ∷ 4 ∷ 5 ∷ 6 ∷ []) (omega arith, (omega arith, (omega arith, (omega arith, (omega arith, (omega arith, tt)))))), (ones (0 ∷ 0 ∷ 0 ∷ 0 ∷ 0 ∷ 0 ∷ []) (omega arith, (omega arith, (omega arith, (omega arith, (omega arith, (omega arith, tt)))))), tt));
}

pub is_day : IsDimension day
unfolding is_name is_level_name is_utf8 chars digits lib.Utf8.encode
is_day = record {
  name = refl;
  column = refl;
  has_levels = omega arith;
  few_levels = omega arith;
  level_names = refl;
  distinct_levels = refl;
  has_leaves = omega arith;
  few_leaves = omega arith;
  even = refl;
  member_names = refl;
  distinct_leaves = refl;
  one_parent = two_levels day refl;
}

pub is_day_core : IsCore day_core
is_day_core = record {
  dims = record {
    each_dimension = (is_region, (is_day, tt));
    each_measure = (is_pay, tt);
    has_dimensions = omega arith;
    few_dimensions = omega arith;
    has_measures = omega arith;
    few_measures = omega arith;
    few_cuboids = omega arith;
    distinct_dimensions = refl;
    distinct_measures = refl;
    distinct_columns = refl;
  };
  points = ((omega arith, (omega arith, tt)), ((omega arith, (omega arith, tt)), ((omega arith, (omega arith, tt)), ((omega arith, (omega arith, tt)), ((omega arith, (omega arith, tt)), ((omega arith, (omega arith, tt)), ((omega arith, (omega arith, tt)), ((omega arith, (omega arith, tt)), ((omega arith, (omega arith, tt)), ((omega arith, (omega arith, tt)), ((omega arith, (omega arith, tt)), ((omega arith, (omega arith, tt)), tt))))))))))));
  increasing = (refl, (refl, (refl, (refl, (refl, (refl, (refl, (refl, (refl, (refl, (refl, (refl, tt))))))))))));
  few_points = omega arith;
  facts = refl;
  counted = (omega arith, (omega arith, (omega arith, (omega arith, (omega arith, (omega arith, (omega arith, (omega arith, (omega arith, (omega arith, (omega arith, (omega arith, tt))))))))))));
  few_facts = omega arith;
  measures = refl;
  values = (refl, tt);
  bounded = (ones (1 ∷ 2 ∷ 4 ∷ 8 ∷ 16 ∷ 32 ∷ 64 ∷ 128 ∷ 256 ∷ 512 ∷ 1024 ∷ 2048 ∷ []) (omega arith, (omega arith, (omega arith, (omega arith, (omega arith, (omega arith, (omega arith, (omega arith, (omega arith, (omega arith, (omega arith, (omega arith, tt)))))))))))), tt);
}

-- a dimension with one level has no upper members
one_level : (d : NamedDimension) → length d.levels ≡ 1 → IsHierarchy (plain d)
one_level d a n x y l h k e = absurd (omega (arith, a, l))

pub is_row : IsDimension row
unfolding is_name is_level_name is_utf8 chars digits lib.Utf8.encode
is_row = record {
  name = refl;
  column = refl;
  has_levels = omega arith;
  few_levels = omega arith;
  level_names = refl;
  distinct_levels = refl;
  has_leaves = omega arith;
  few_leaves = omega arith;
  even = refl;
  member_names = refl;
  distinct_leaves = refl;
  one_parent = one_level row refl;
}

pub is_column : IsDimension column
unfolding is_name is_level_name is_utf8 chars digits lib.Utf8.encode
is_column = record {
  name = refl;
  column = refl;
  has_levels = omega arith;
  few_levels = omega arith;
  level_names = refl;
  distinct_levels = refl;
  has_leaves = omega arith;
  few_leaves = omega arith;
  even = refl;
  member_names = refl;
  distinct_leaves = refl;
  one_parent = one_level column refl;
}

pub is_v : IsMeasure (measure (codes "v"))
unfolding is_name is_measure_name is_utf8 chars digits lib.Utf8.encode
is_v = record { name = refl; column = refl; few_decimals = omega arith }

pub are_field_dims : IsDims some_fields.dims
are_field_dims = record {
  each_dimension = (is_row, (is_column, tt));
  each_measure = (is_v, tt);
  has_dimensions = omega arith;
  few_dimensions = omega arith;
  has_measures = omega arith;
  few_measures = omega arith;
  few_cuboids = omega arith;
  distinct_dimensions = refl;
  distinct_measures = refl;
  distinct_columns = refl;
}

pub are_some_fields : IsCore some_fields
are_some_fields = record {
  dims = are_field_dims;
  points = ((omega arith, (omega arith, tt)), ((omega arith, (omega arith, tt)), ((omega arith, (omega arith, tt)), tt)));
  increasing = (refl, (refl, (refl, tt)));
  few_points = omega arith;
  facts = refl;
  counted = (omega arith, (omega arith, (omega arith, tt)));
  few_facts = omega arith;
  measures = refl;
  values = (refl, tt);
  bounded = (ones (7 ∷ 8 ∷ 9 ∷ []) (omega arith, (omega arith, (omega arith, tt))), tt);
}

pub are_all_fields : IsCore all_fields
are_all_fields = record {
  dims = are_field_dims;
  points = ((omega arith, (omega arith, tt)), ((omega arith, (omega arith, tt)), ((omega arith, (omega arith, tt)), ((omega arith, (omega arith, tt)), ((omega arith, (omega arith, tt)), ((omega arith, (omega arith, tt)), tt))))));
  increasing = (refl, (refl, (refl, (refl, (refl, (refl, tt))))));
  few_points = omega arith;
  facts = refl;
  counted = (omega arith, (omega arith, (omega arith, (omega arith, (omega arith, (omega arith, tt))))));
  few_facts = omega arith;
  measures = refl;
  values = (refl, tt);
  bounded = (ones (1 ∷ 2 ∷ 3 ∷ 4 ∷ 5 ∷ 6 ∷ []) (omega arith, (omega arith, (omega arith, (omega arith, (omega arith, (omega arith, tt)))))), tt);
}

-- parts that are those of a core keep the rules as it does
pub same_core : (core : Core) (d : Dims) (points : List (List ℕ)) (facts : List ℕ) (cube : List (List ℤ)) → d ≡ core.dims → points ≡ core.shape.points → facts ≡ core.shape.facts → cube ≡ core.cube → IsCore core
    → IsCore (record { dims = d; shape = record { points = points; facts = facts }; cube = cube })
same_core core d points facts cube a b c e ok =
    subst (λ (x : Dims). IsCore (record { dims = x; shape = record { points = points; facts = facts }; cube = cube })) (sym a)
    (subst (λ (x : List (List ℕ)). IsCore (record { dims = core.dims; shape = record { points = x; facts = facts }; cube = cube })) (sym b)
    (subst (λ (x : List ℕ). IsCore (record { dims = core.dims; shape = record { points = core.shape.points; facts = x }; cube = cube })) (sym c)
    (subst (λ (x : List (List ℤ)). IsCore (record { dims = core.dims; shape = record { points = core.shape.points; facts = core.shape.facts }; cube = x })) (sym e) ok)))

-- an item behind items
pub pushed : {X : Type 0} {a b : List X} {x y : X} {new : List X} → new ≡ a ++ x ∷ [] → a ≡ b → x ≡ y → new ≡ b ++ y ∷ []
pushed e p q = e ∙ ap₂ (λ u v. u ++ v ∷ []) p q
