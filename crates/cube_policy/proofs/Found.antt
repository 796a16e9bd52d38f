-- What look-ups that found something, or nothing, say.
use Rattle.std.proofs.Common.{◌≡◌, ℕ, Bool, true, false, not, List, length, Option, Some, None, sym, ap, ◌∙◌}
use Rattle.std.specs.Prelude.{is_none, is_some, find, unwrap_or, option_and_then}
use Rattle.std.specs.Str.{bytes_eq}
use Rattle.cube_model.specs.Dims.{NamedDimension, Dims, found}
use Rattle.cube_policy.specs.PolicyFile.{level_in, level_named, level_below}

pub none_told : {X : Type 0} (o : Option X) (b : Bool) → is_some o ≡ b → is_none o ≡ not b
none_told None b h = ap not h
none_told (Some x) b h = ap not h

-- whether a level of a dimension is named, by what was read of the two names
pub level_told : (s : Dims) (d l x y : List ℕ) (o : Option ℕ) (b : Bool) → o ≡ level_named s d l → d ≡ x → l ≡ y → is_some o ≡ b → is_none (level_named s x y) ≡ not b
level_told s d l x y o b is at named h =
    ap (λ z. is_none (level_named s z y)) (sym at) ∙ ap (λ z. is_none (level_named s d z)) (sym named) ∙ ap is_none (sym is) ∙ none_told o b h

-- the level that is named of a dimension, by what was read of it
pub found_level : (below : List (List ℕ × List ℕ)) (d : NamedDimension) (name text : List ℕ) (levels : List (List ℕ)) (e : List ℕ × List ℕ) (o : Option ℕ) (r : ℕ)
    → name ≡ d.name → levels ≡ d.levels → Some e ≡ find (λ e. bytes_eq name e.0) below → text ≡ e.1 → o ≡ level_in d text → r ≡ unwrap_or o (length levels) → r ≡ level_below below d
found_level below d name text levels e o r named level found at is r_is =
    r_is
    ∙ ap (λ (ls : List (List ℕ)). unwrap_or o (length ls)) level
    ∙ ap (λ (q : Option ℕ). unwrap_or q (length d.levels))
    (is ∙ ap (level_in d) at ∙ ap (option_and_then (λ e. level_in d e.1)) (found ∙ ap (λ n. find (λ e. bytes_eq n e.0) below) named))

-- whether a name is known, by what was read of it
pub found_told : (names : List (List ℕ)) (x y : List ℕ) (o : Option ℕ) (b : Bool) → o ≡ found x names → x ≡ y → is_some o ≡ b → is_none (found y names) ≡ not b
found_told names x y o b is at h = ap (λ z. is_none (found z names)) (sym at) ∙ ap is_none (sym is) ∙ none_told o b h

pub some_told : {X : Type 0} (o : Option X) (x : X) → Some x ≡ o → is_none o ≡ false
some_told o x h = ap is_none (sym h)

pub missed : {X : Type 0} (o : Option X) → None ≡ o → is_none o ≡ true
missed o h = ap is_none (sym h)
