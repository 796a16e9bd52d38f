-- Names and their texts.
use Rattle.std.proofs.Common.{◌≡◌, inl, inr, ℕ, suc, Bool, true, false, List, [], ◌∷◌, ◌++◌, length, refl, sym, ap, ◌∙◌, eqb, eqb-true, leb}
use Rattle.std.specs.Prelude.{Option, Some, None}
use Rattle.std.specs.List.{list_any, list_all, flat_map}
use Rattle.std.proofs.lemmas.Bool.{false≢true, and_parts}
use Rattle.cube_model.proofs.Members.{tested}
use Rattle.cube_model.specs.Names.{is_control}
use Rattle.cube_text.specs.Quoting.{is_bare, is_bare_name, is_marked, spelled, quoted, printed, IsNameText, onto, ending, unspelled, unquoted, NameTexts, NamesRead}

some_inj : {X : Type 0} (x y : X) → Some x ≡ Some y → x ≡ y
some_inj x y e = cc

-- a marked byte is the quote or the backslash, and no control byte
marked_plain : (b : ℕ) → is_marked b ≡ false → (eqb b 34 ≡ false) × (eqb b 92 ≡ false)
marked_plain b h = tested (eqb b 34)
    (λ p. absurd (false≢true (sym h ∙ rw p refl)))
    (λ p. (p, tested (eqb b 92) (λ q. absurd (false≢true (sym h ∙ rw (p, q) refl))) (λ q. q)))

no_any : (b : ℕ) (bs : List ℕ) → list_any is_control (b ∷ bs) ≡ false → (is_control b ≡ false) × (list_any is_control bs ≡ false)
no_any b bs h = tested (is_control b) (λ p. absurd (false≢true (sym h ∙ rw p refl))) (λ p. (p, sym (rw p refl) ∙ h))

pub reads_spelled : (x : List ℕ) → list_any is_control x ≡ false → unspelled false (flat_map spelled x ++ 34 ∷ []) ≡ Some x
reads_spelled [] h = refl
reads_spelled (b ∷ bs) h = let c = no_any b bs h in let again = reads_spelled bs c.1 in tested (is_marked b)
    (λ p. rw (p, again, p) refl)
    (λ p. let m = marked_plain b p in rw (p, m.0, m.1, c.0, again) refl)

-- ---- back

pub record IsSpelled (t x : List ℕ) : Type 0 where
  pub is : t ≡ flat_map spelled x ++ 34 ∷ []
  pub plain : list_any is_control x ≡ false

pub record IsMarked (t x : List ℕ) : Type 0 where
  pub byte : ℕ
  pub more : List ℕ
  pub rest : List ℕ
  pub marked : is_marked byte ≡ true
  pub text : t ≡ byte ∷ rest
  pub name : x ≡ byte ∷ more
  pub spelled : IsSpelled rest more

abbrev IsRead : Bool → List ℕ → List ℕ → Type 0
IsRead true t x = IsMarked t x
IsRead false t x = IsSpelled t x

pub record Onto (b : ℕ) (o : Option (List ℕ)) (x : List ℕ) : Type 0 where
  pub more : List ℕ
  pub is : o ≡ Some more
  pub whole : x ≡ b ∷ more

onto_some : (b : ℕ) (o : Option (List ℕ)) (x : List ℕ) → onto b o ≡ Some x → Onto b o x
onto_some b None x h = absurd (cc)
onto_some b (Some y) x h = record { more = y; is = refl; whole = sym (some_inj (b ∷ y) x h) }

ending_some : (t x : List ℕ) → ending t ≡ Some x → (t ≡ []) × (x ≡ [])
ending_some [] x h = (refl, sym (some_inj [] x h))
ending_some (b ∷ t) x h = absurd (cc)

no_none : (x : List ℕ) → None ≡ Some x → ⊥
no_none x h = cc

unmarked_byte : (b : ℕ) → eqb b 34 ≡ false → eqb b 92 ≡ false → is_marked b ≡ false
unmarked_byte b p q = rw (p, q) refl

marked_control : (b : ℕ) → is_marked b ≡ true → is_control b ≡ false
marked_control b h = tested (eqb b 34) (λ p. rw (eqb-true b 34 p) refl) (λ p. tested (eqb b 92) (λ q. rw (eqb-true b 92 q) refl) (λ q. absurd (false≢true (sym (unmarked_byte b p q) ∙ h))))

closed : (b : ℕ) (t x : List ℕ) → eqb b 34 ≡ true → t ≡ [] → x ≡ [] → IsSpelled (b ∷ t) x
closed b t x p e f = record { is = rw (eqb-true b 34 p, e, f) refl; plain = rw f refl }

joined_marked : (b : ℕ) (t x : List ℕ) → eqb b 92 ≡ true → IsMarked t x → IsSpelled (b ∷ t) x
joined_marked b t x q m = record { is = rw (m.name, m.text, m.marked, eqb-true b 92 q, m.spelled.is) refl; plain = rw (m.name, marked_control m.byte m.marked, m.spelled.plain) refl }

joined_plain : (b : ℕ) (t x : List ℕ) → eqb b 34 ≡ false → eqb b 92 ≡ false → is_control b ≡ false → (more : List ℕ) → x ≡ b ∷ more → IsSpelled t more → IsSpelled (b ∷ t) x
joined_plain b t x p q r more e again = record { is = rw (e, unmarked_byte b p q, again.is) refl; plain = rw (e, r, again.plain) refl }

pub read_back : (m : Bool) (t x : List ℕ) → unspelled m t ≡ Some x → IsRead m t x
read_back true [] x h = absurd (no_none x h)
read_back false [] x h = absurd (no_none x h)
read_back true (b ∷ t) x h = tested (is_marked b)
    (λ p. let o = onto_some b (unspelled false t) x (sym (rw p refl) ∙ h) in
    record { byte = b; more = o.more; rest = t; marked = p; text = refl; name = o.whole; spelled = read_back false t o.more o.is })
    (λ p. absurd (no_none x (sym (rw p refl) ∙ h)))
read_back false (b ∷ t) x h = tested (eqb b 34)
    (λ p. let e = ending_some t x (sym (rw p refl) ∙ h) in closed b t x p e.0 e.1)
    (λ p. tested (eqb b 92)
    (λ q. let m = read_back true t x (sym (rw (p, q) refl) ∙ h) in
    joined_marked b t x q m)
    (λ q. tested (is_control b)
    (λ r. absurd (no_none x (sym (rw (p, q, r) refl) ∙ h)))
    (λ r. let o = onto_some b (unspelled false t) x (sym (rw (p, q, r) refl) ∙ h) in joined_plain b t x p q r o.more o.whole (read_back false t o.more o.is))))

not_quote : (b : ℕ) (bs : List ℕ) → is_bare_name (b ∷ bs) ≡ true → eqb b 34 ≡ false
unfolding is_bare
not_quote b bs h =
    let l = (and_parts (leb 1 (suc (length bs))) (list_all is_bare (b ∷ bs)) h).1 in
    let c = (and_parts (is_bare b) (list_all is_bare bs) l).0 in
    tested (eqb b 34) (λ p. absurd (false≢true (sym (ap is_bare (eqb-true b 34 p)) ∙ c))) (λ p. p)

pub bare_reads : (x : List ℕ) → is_bare_name x ≡ true → unquoted x ≡ Some x
unfolding unquoted
bare_reads [] h = absurd (false≢true h)
bare_reads (b ∷ bs) h = rw (not_quote b bs h, h) refl

pub name_texts : NameTexts
unfolding unquoted
name_texts text x = (reads text x, meant text x)
  where
    reads : (text x : List ℕ) → unquoted text ≡ Some x → IsNameText text x
    reads [] x h = absurd (no_none x h)
    reads (b ∷ t) x h = tested (eqb b 34)
        (λ p. let r = read_back false t x (sym (rw p refl) ∙ h) in inr (r.plain, rw (eqb-true b 34 p, r.is) refl))
        (λ p. tested (is_bare_name (b ∷ t))
        (λ q. let e = some_inj (b ∷ t) x (sym (rw (p, q) refl) ∙ h) in inl (rw (sym e) q, e))
        (λ q. absurd (no_none x (sym (rw (p, q) refl) ∙ h))))

    meant : (text x : List ℕ) → IsNameText text x → unquoted text ≡ Some x
    meant text x (inl h) = rw h.1 (bare_reads x h.0)
    meant text x (inr h) = rw h.1 (reads_spelled x h.0)

in_quotes : (x : List ℕ) → list_any is_control x ≡ false → unquoted (quoted x) ≡ Some x
unfolding unquoted
in_quotes x c = reads_spelled x c

printed_reads : (x : List ℕ) → list_any is_control x ≡ false → unquoted (printed x) ≡ Some x
printed_reads x c = tested (is_bare_name x) (λ p. rw p (bare_reads x p)) (λ p. rw p (in_quotes x c))

pub names_read : NamesRead
names_read x h = (printed_reads x h, in_quotes x h)
