-- A fact file that is written begins with no byte order mark.
use Rattle.std.specs.Prelude.{nat_le}
use Rattle.std.specs.List.{list_any}
use Rattle.std.specs.Str.{is_utf8}
use Rattle.std.proofs.Common.{◌≡◌, ℕ, ◌≤◌, Bool, true, false, ◌&&◌, not, List, [], ◌∷◌, ◌++◌, length, refl, sym, ap, ◌∙◌, eqb, eqb-true, arith}
use Rattle.std.proofs.lemmas.Bool.{false≢true, and_parts, leb-true}
use Rattle.csv.specs.Reading.{strip_bom, is_bom}
use Rattle.cube_model.specs.Names.{is_name, is_control, begins_with_mark}
use Rattle.cube_model.proofs.Members.{tested}
use Rattle.cube_text.specs.Quoting.{needs_quotes, field}

-- a text without a mark is read as it is
pub strip_same : (t : List ℕ) → begins_with_mark t ≡ false → strip_bom t ≡ t
unfolding strip_bom
strip_same [] e = refl
strip_same (a ∷ []) e = refl
strip_same (a ∷ b ∷ []) e = refl
strip_same (a ∷ b ∷ c ∷ rest) e = rw (none a b c rest e) refl
  where
    none : (a b c : ℕ) (rest : List ℕ) → begins_with_mark (a ∷ b ∷ c ∷ rest) ≡ false → is_bom a b c ≡ false
    none a b c rest e = tested (is_bom a b c)
        (λ t.
        let first = and_parts (eqb a 239 && eqb b 187) (eqb c 191) t in
        let second = and_parts (eqb a 239) (eqb b 187) first.0 in
        let x = eqb-true a 239 second.0 in
        let y = eqb-true b 187 second.1 in
        let z = eqb-true c 191 first.1 in
        absurd (false≢true (sym (rw (x, y, z) at e))))
        (λ f. f)

and_none : (b : Bool) → (b && false) ≡ false
and_none true = refl
and_none false = refl

-- no mark begins where a comma follows a name
behind_name : (x rest : List ℕ) → 1 ≤ length x → begins_with_mark x ≡ false → begins_with_mark (x ++ 44 ∷ rest) ≡ false
behind_name [] rest l e = absurd (omega (arith, l))
behind_name (a ∷ []) rest l e = and_none (eqb 239 a)
behind_name (a ∷ b ∷ []) rest l e = ap (λ (t : Bool). eqb 239 a && t) (and_none (eqb 187 b)) ∙ and_none (eqb 239 a)
behind_name (a ∷ b ∷ c ∷ x) rest l e = e

-- what a name is not
name_plain : (x : List ℕ) → is_name x ≡ true → (1 ≤ length x) × (begins_with_mark x ≡ false)
unfolding is_name
name_plain x e =
    let a = and_parts (is_utf8 x && nat_le 1 (length x) && nat_le (length x) 128 && not (list_any is_control x)) (not (begins_with_mark x)) e in
    let b = and_parts (is_utf8 x && nat_le 1 (length x) && nat_le (length x) 128) (not (list_any is_control x)) a.0 in
    let c = and_parts (is_utf8 x && nat_le 1 (length x)) (nat_le (length x) 128) b.0 in
    let d = and_parts (is_utf8 x) (nat_le 1 (length x)) c.0 in
    (leb-true 1 (length x) d.1, flipped (begins_with_mark x) a.1)
  where
    flipped : (b : Bool) → not b ≡ true → b ≡ false
    flipped true e = sym e
    flipped false e = refl

pub no_mark : (x rest : List ℕ) → is_name x ≡ true → begins_with_mark (field x ++ 44 ∷ rest) ≡ false
no_mark x rest e =
    let plain = name_plain x e in
    tested (list_any needs_quotes x)
    (λ t. rw t refl)
    (λ f. rw f (behind_name x rest plain.0 plain.1))
