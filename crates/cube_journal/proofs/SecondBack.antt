-- A history of sources and links, read back from its text.
use Rattle.std.proofs.Common.{◌≡◌, ◌⊎◌, inl, inr, ℕ, zero, suc, ◌+◌, ◌*◌, ◌^◌, ◌<◌, ◌≤◌, Bool, true, false, not, cond, ◌&&◌, ◌||◌, ◌==◌, List, [], ◌∷◌, ◌++◌, length, map, flat_map, codes, decimal, get_or, All, nat_eq, nat_lt, nat_le, Option, Some, None, is_some, option_to_list, Ok, Err, refl, sym, ◌∙◌, ap, ap₂, subst, arith, append-nil, length-append, if◌then◌else◌, ltb-true, lt-ltb, leb-true}
use Rattle.std.specs.Char.{is_ascii_digit}
use Rattle.std.specs.List.{list_all, list_any, starts_with, AllByRecursion}
use Rattle.std.specs.Str.Parse.{AllDigits, digits_value}
use Rattle.std.proofs.lemmas.Bool.{and_from}
use Rattle.std.proofs.lemmas.Bool.Decides.{nat_tests}
use Rattle.std.proofs.lemmas.Fmt.{decimal_digit, decimal_is_IsNumeral, first_decimal, length-decimal-le}
use Rattle.std.proofs.lemmas.List.Splits.{slice_split_at, slice_split_none}
use Rattle.std.proofs.lemmas.Slice.Eq.{bytes_eq-Decides}
use Rattle.std.proofs.lemmas.Str.Parse.{digit_from_value}
use Rattle.cube_model.specs.Checks.{check, in_turn, unless}
use Rattle.cube_model.specs.Cubes.{Each, are_levels}
use Rattle.cube_model.specs.Dims.{Dims, IsDims, IsDimension, NamedDimension, plain, plains}
use Rattle.cube_model.specs.Entries.{requests, is_link}
use Rattle.cube_model.specs.Protection.{is_lattice, is_parity}
use Rattle.cube_model.specs.declared.entry.Entry.{Entry}
use Rattle.cube_model.specs.declared.entry.Entry.TheVariants.{Asked, Source, Linked}
use Rattle.cube_model.specs.declared.link.Link.{Link}
use Rattle.cube_model.specs.declared.link.Link.TheVariants.{Pair, Single}
use Rattle.cube_model.specs.declared.policy.Method.{Method}
use Rattle.cube_model.specs.declared.policy.Method.TheVariants.{Plain}
use Rattle.cube_model.specs.declared.policy.Policy.{Policy}
use Rattle.cube_journal.specs.Digests.{is_digest}
use Rattle.cube_journal.specs.Laws.{IsWithoutRequests, SecondReadsBack, SecondIsShort, SecondIsKept}
use Rattle.cube_journal.specs.Lines.{ended_lines, IsInLine}
use Rattle.cube_journal.specs.PublicText.{number_fields}
use Rattle.cube_journal.specs.Recovery.{head_words, head_line, is_plain, number_of, numbers_of, with_number, fields, source_of, link_of, entry_of, is_request_line, damage, entries_in, lines_in, with_version, recovered_from, recovered, kept_from}
use Rattle.cube_journal.specs.SecondText.{link_places, entry_line, journal2_text}
use Rattle.cube_journal.specs.Sound.{IsSound}
use Rattle.cube_journal.specs.declared.fault.JournalFault.{JournalFault}
use Rattle.cube_journal.specs.declared.fault.JournalFault.TheVariants.{Damaged, OtherCube}
use Rattle.cube_journal.specs.declared.first.Version.TheVariants.{Two}
use Rattle.cube_journal.proofs.Digits.{both, head_clean, head_length}
use Rattle.cube_journal.proofs.Entries.{any_more}
use Rattle.cube_journal.proofs.KeptBytes.{lines_again}
use Rattle.cube_journal.proofs.Lengths.{Short, joins, wider, one_short}
use Rattle.cube_journal.proofs.Recovering.{reads_two}

-- ---- one number

are_digits : (ds : List ℕ) → AllDigits 10 ds → list_all is_ascii_digit ds ≡ true
are_digits [] d = refl
are_digits (c ∷ cs) d =
    let k = digit_from_value c d.0 in
    let here : is_ascii_digit c ≡ true = (let low : 48 ≤ c = k.0 in let high : c ≤ 57 = k.1 in grind (arith, nat_tests)) in
    and_from (is_ascii_digit c) (list_all is_ascii_digit cs) here (are_digits cs d.1)

clean_digits : (ds : List ℕ) → AllDigits 10 ds → IsInLine ds
clean_digits [] d = tt
clean_digits (c ∷ cs) d = let k = digit_from_value c d.0 in ((λ (is : c ≡ 10). omega (arith, is, k.0)), clean_digits cs d.1)

no_blank : (ds : List ℕ) → AllDigits 10 ds → All (λ b. (b == 32) ≡ false) ds
no_blank [] d i e lt = absurd (omega (arith, lt))
no_blank (c ∷ cs) d zero e lt = let k = digit_from_value c d.0 in let low : 48 ≤ c = k.0 in grind (arith, nat_tests)
no_blank (c ∷ cs) d (suc i) e lt = no_blank cs d.1 i e (omega (arith, lt))

-- no other digit behind a leading zero
leads : (n : ℕ) → n < 2 ^ 64 → (48 < get_or (decimal n) 0 0) ⊎ (decimal n ≡ 48 ∷ [])
leads zero small = inr (decimal_digit 0 (omega arith))
leads (suc n) small = inl (first_decimal (suc n) (omega arith) small)

plain_by : (z a s o : Bool) → z ≡ false → a ≡ true → s ≡ false → ((not z && a) && (not s || o)) ≡ true
plain_by z a s o p q r = rw (p, q, r) refl

plain_digits : (ds : List ℕ) → list_all is_ascii_digit ds ≡ true → 0 < length ds → (48 < get_or ds 0 0) ⊎ (ds ≡ 48 ∷ []) → is_plain ds ≡ true
plain_digits [] all some lead = absurd (omega (arith, some))
plain_digits (c ∷ cs) all some (inr is) = subst (λ (ds : List ℕ). is_plain ds ≡ true) (sym is) refl
plain_digits (c ∷ cs) all some (inl lead) =
    let there : (length (c ∷ cs) == 0) ≡ false = grind (arith, nat_tests) in
    let no_zero : nat_eq 48 c ≡ false = grind (arith, nat_tests) in
    plain_by (length (c ∷ cs) == 0) (list_all is_ascii_digit (c ∷ cs)) (starts_with nat_eq (c ∷ cs) (48 ∷ [])) (length (c ∷ cs) == 1) there all (ap (λ (b : Bool). b && true) no_zero)

abbrev IsSmall : ℕ → Type 0
IsSmall n = n < 2 ^ 32

number_back : (n : ℕ) → IsSmall n → number_of (decimal n) ≡ Some n
number_back n small =
    let is = decimal_is_IsNumeral n (omega (arith, small)) in
    let plain : is_plain (decimal n) ≡ true = plain_digits (decimal n) (are_digits (decimal n) is.0.1) is.0.0 (leads n (omega (arith, small))) in
    let value : digits_value 10 (decimal n) ≡ n = is.1 in
    let less : nat_lt (digits_value 10 (decimal n)) (2 ^ 32) ≡ true = lt-ltb (digits_value 10 (decimal n)) (2 ^ 32) (omega (arith, value, small)) in
    ap (λ (b : Bool). cond (b && nat_lt (digits_value 10 (decimal n)) (2 ^ 32)) (Some (digits_value 10 (decimal n))) None) plain
    ∙ ap (λ (b : Bool). cond (true && b) (Some (digits_value 10 (decimal n))) None) less
    ∙ ap Some value

-- ---- the fields of a line

-- a number, and others behind it
numbers_back : (m : ℕ) (ns : List ℕ) → IsSmall m → Each IsSmall ns → numbers_of (fields (decimal m ++ number_fields ns)) ≡ Some (m ∷ ns)
numbers_back m [] small each =
    let is = decimal_is_IsNumeral m (omega (arith, small)) in
    ap (λ (text : List ℕ). numbers_of (fields text)) (append-nil (decimal m))
    ∙ ap numbers_of (slice_split_none (λ b. b == 32) (decimal m) (no_blank (decimal m) is.0.1))
    ∙ ap (λ (x : Option ℕ). with_number x (Some [])) (number_back m small)
numbers_back m (n ∷ ns) small each =
    let is = decimal_is_IsNumeral m (omega (arith, small)) in
    ap numbers_of (slice_split_at (λ b. b == 32) (decimal m) 32 (decimal n ++ number_fields ns) (no_blank (decimal m) is.0.1) refl)
    ∙ ap (λ (x : Option ℕ). with_number x (numbers_of (fields (decimal n ++ number_fields ns)))) (number_back m small)
    ∙ ap (with_number (Some m)) (numbers_back n ns each.0 each.1)

number_short : (n : ℕ) → IsSmall n → Short 11 (32 ∷ decimal n)
number_short n small =
    let is = decimal_is_IsNumeral n (omega (arith, small)) in
    joins 1 10 (32 ∷ []) (decimal n) (one_short 32 (λ e. cc)) (record { clean = clean_digits (decimal n) is.0.1; few = length-decimal-le 10 n (omega arith) (omega (arith, small)) (omega (arith, small)) })

numbers_short : (ns : List ℕ) → Each IsSmall ns → Short (11 * length ns) (number_fields ns)
numbers_short [] each = record { clean = tt; few = omega arith }
numbers_short (n ∷ ns) each = wider (11 + 11 * length ns) (11 * length (n ∷ ns)) (number_fields (n ∷ ns)) (omega arith) (joins 11 (11 * length ns) (32 ∷ decimal n) (number_fields ns) (number_short n each.0) (numbers_short ns each.1))

-- ---- the line of an entry

-- the line without its line feed
abbrev bare : Entry → List ℕ
bare (Asked r) = []
bare (Source m levels) = codes "s" ++ number_fields (m ∷ levels)
bare (Linked m link) = codes "k" ++ number_fields (m ∷ link_places link)

-- it is read back, and is short
record IsBack (s : Dims) (p : Policy) (n : ℕ) (e : Entry) : Type 0 where
  reads : entry_of s p n (bare e) ≡ Some e
  asks : is_request_line (bare e) ≡ false
  line : entry_line e ≡ bare e ++ 10 ∷ []
  short : Short 127 (bare e)

-- a measure that is under control has a method
there : (q : Method → Bool) (ms : List Method) (m : ℕ) → q Plain ≡ false → q (get_or ms m Plain) ≡ true → m < length ms
there q [] m none t = absurd (let e : false ≡ true = sym none ∙ t in cc)
there q (k ∷ ms) zero none t = omega arith
there q (k ∷ ms) (suc m) none t = let lt = there q ms m none t in omega (arith, lt)

levels_small : (ds : List NamedDimension) (ls : List ℕ) → AllByRecursion IsDimension ds → are_levels (map plain ds) ls ≡ true → Each IsSmall ls × (length ls ≡ length ds)
levels_small [] [] each t = (tt, refl)
levels_small [] (l ∷ ls) each t = absurd (cc)
levels_small (d ∷ ds) [] each t = absurd (cc)
levels_small (d ∷ ds) (l ∷ ls) each t =
    let here = both (nat_le l (length d.levels)) (are_levels (map plain ds) ls) t in
    let le : l ≤ length d.levels = leb-true l (length d.levels) here.0 in
    let more = levels_small ds ls each.1 here.1 in
    ((omega (arith, le, each.0.few_levels), more.0), ap suc more.1)

short_line : (word m : ℕ) (ns : List ℕ) → (word ≡ 10 → ⊥) → IsSmall m → Each IsSmall ns → length ns ≤ 8 → Short 127 (word ∷ number_fields (m ∷ ns))
short_line word m ns is_word small each few =
    wider (1 + 11 * length (m ∷ ns)) 127 (word ∷ number_fields (m ∷ ns)) (omega (arith, few)) (joins 1 (11 * length (m ∷ ns)) (word ∷ []) (number_fields (m ∷ ns)) (one_short word is_word) (numbers_short (m ∷ ns) (small, each)))

source_reads : (s : Dims) (p : Policy) (n m : ℕ) (c : List ℕ) → IsSmall m → Each IsSmall c → IsSound s p n (Source m c) → entry_of s p n (bare (Source m c)) ≡ Some (Source m c)
unfolding entry_of
source_reads s p n m c small each sound = ap (source_of s p) (numbers_back m c small each) ∙ ap (λ (b : Bool). cond b (Some (Source m c)) None) sound

link_reads : (s : Dims) (p : Policy) (n m : ℕ) (l : Link) → IsSmall m → Each IsSmall (link_places l) → IsSound s p n (Linked m l) → entry_of s p n (bare (Linked m l)) ≡ Some (Linked m l)
unfolding entry_of
link_reads s p n m (Pair i j) small each sound = ap (link_of p n) (numbers_back m (i ∷ j ∷ []) small each) ∙ ap (λ (b : Bool). cond b (Some (Linked m (Pair i j))) None) sound
link_reads s p n m (Single i) small each sound = ap (link_of p n) (numbers_back m (i ∷ []) small each) ∙ ap (λ (b : Bool). cond b (Some (Linked m (Single i))) None) sound

places_small : (n : ℕ) (l : Link) → n ≤ 2 ^ 32 → is_link n l ≡ true → Each IsSmall (link_places l) × (length (link_places l) ≤ 8)
places_small n (Pair i j) few t =
    let here = both (nat_lt i n && nat_lt j n) (not (i == j)) t in
    let two = both (nat_lt i n) (nat_lt j n) here.0 in
    let a : i < n = ltb-true i n two.0 in
    let b : j < n = ltb-true j n two.1 in
    ((omega (arith, a, few), (omega (arith, b, few), tt)), omega arith)
places_small n (Single i) few t = let a : i < n = ltb-true i n t in ((omega (arith, a, few), tt), omega arith)

is_back : (s : Dims) (p : Policy) (n : ℕ) (e : Entry) (es : List Entry) → IsDims s → length p.methods ≤ 2 ^ 32 → n ≤ 2 ^ 32 → requests (e ∷ es) ≡ [] → IsSound s p n e → IsBack s p n e
is_back s p n (Asked r) es dims measures places none sound = absurd (cc)
is_back s p n (Source m c) es dims measures places none sound =
    let here = both (is_lattice (get_or p.methods m Plain)) (are_levels (plains s) c) sound in
    let lt : m < length p.methods = there is_lattice p.methods m refl here.0 in
    let small : IsSmall m = omega (arith, lt, measures) in
    let levels = levels_small s.dimensions c dims.each_dimension here.1 in
    record {
      reads = source_reads s p n m c small levels.0 sound;
      asks = refl;
      line = refl;
      short = short_line 115 m c (λ e. cc) small levels.0 (omega (arith, levels.1, dims.few_dimensions));
    }
is_back s p n (Linked m l) es dims measures places none sound =
    let here = both (is_parity (get_or p.methods m Plain)) (is_link n l) sound in
    let lt : m < length p.methods = there is_parity p.methods m refl here.0 in
    let small : IsSmall m = omega (arith, lt, measures) in
    let places' = places_small n l places here.1 in
    record {
      reads = link_reads s p n m l small places'.0 sound;
      asks = refl;
      line = refl;
      short = short_line 107 m (link_places l) (λ e. cc) small places'.0 places'.1;
    }

rest_none : (e : Entry) (es : List Entry) → requests (e ∷ es) ≡ [] → requests es ≡ []
rest_none (Asked r) es none = absurd (cc)
rest_none (Source m c) es none = none
rest_none (Linked m l) es none = none

each_back : (s : Dims) (p : Policy) (n : ℕ) (es : List Entry) → IsDims s → length p.methods ≤ 2 ^ 32 → n ≤ 2 ^ 32 → requests es ≡ [] → Each (IsSound s p n) es → Each (IsBack s p n) es
each_back s p n [] dims measures places none sound = tt
each_back s p n (e ∷ es) dims measures places none sound = (is_back s p n e es dims measures places none sound.0, each_back s p n es dims measures places (rest_none e es none) sound.1)

-- ---- all lines

no_damage : (s : Dims) (p : Policy) (n : ℕ) (earlier : List (List ℕ)) (e : Entry) → IsBack s p n e → list_any is_request_line earlier ≡ false → damage s p n Two earlier (bare e) ≡ []
no_damage s p n earlier e back none =
    ap (λ (o : Option Entry). check (not (is_some o && (is_request_line (bare e) || (true && not (list_any is_request_line earlier))))) (Damaged (length earlier + 2))) back.reads
    ∙ ap (λ (b : Bool). check (not (true && (b || (true && not (list_any is_request_line earlier))))) (Damaged (length earlier + 2))) back.asks
    ∙ ap (λ (b : Bool). check (not (true && (false || (true && not b)))) (Damaged (length earlier + 2))) none

no_damages : (s : Dims) (p : Policy) (n : ℕ) (earlier : List (List ℕ)) (es : List Entry) → Each (IsBack s p n) es → list_any is_request_line earlier ≡ false → in_turn (damage s p n Two) earlier (map bare es) ≡ []
no_damages s p n earlier [] each none = refl
no_damages s p n earlier (e ∷ es) each none =
    ap (λ (l : List JournalFault). l ++ in_turn (damage s p n Two) (earlier ++ bare e ∷ []) (map bare es)) (no_damage s p n earlier e each.0 none)
    ∙ no_damages s p n (earlier ++ bare e ∷ []) es each.1 (any_more is_request_line earlier (bare e) ∙ ap₂ (λ (a b : Bool). a || b) none each.0.asks)

entries_back : (s : Dims) (p : Policy) (n : ℕ) (es : List Entry) → Each (IsBack s p n) es → entries_in s p n (map bare es) ≡ es
entries_back s p n [] each = refl
entries_back s p n (e ∷ es) each =
    ap (λ (o : Option Entry). option_to_list o ++ entries_in s p n (map bare es)) each.0.reads
    ∙ ap (λ (l : List Entry). e ∷ l) (entries_back s p n es each.1)

lines_back : (s : Dims) (p : Policy) (n : ℕ) (es : List Entry) → Each (IsBack s p n) es → lines_in s p n Two (map bare es) ≡ Ok es
lines_back s p n es each =
    ap (λ (l : List JournalFault). unless l (entries_in s p n (map bare es))) (no_damages s p n [] es each refl) ∙ ap Ok (entries_back s p n es each)

joined : (s : Dims) (p : Policy) (n : ℕ) (es : List Entry) → Each (IsBack s p n) es → flat_map entry_line es ≡ flat_map (λ text. text ++ 10 ∷ []) (map bare es)
joined s p n [] each = refl
joined s p n (e ∷ es) each = ap₂ (λ (a b : List ℕ). a ++ b) each.0.line (joined s p n es each.1)

clean_lines : (s : Dims) (p : Policy) (n : ℕ) (es : List Entry) → Each (IsBack s p n) es → Each IsInLine (map bare es)
clean_lines s p n [] each = tt
clean_lines s p n (e ∷ es) each = (each.0.short.clean, clean_lines s p n es each.1)

short_lines : (s : Dims) (p : Policy) (n : ℕ) (es : List Entry) → Each (IsBack s p n) es → length (flat_map entry_line es) ≤ 128 * length es
short_lines s p n [] each = omega arith
short_lines s p n (e ∷ es) each =
    let one : length (entry_line e) ≡ length (bare e) + 1 = ap length each.0.line ∙ length-append (bare e) (10 ∷ []) in
    omega (arith, one, each.0.short.few, short_lines s p n es each.1, length-append (entry_line e) (flat_map entry_line es))

-- ---- the whole text

-- its lines, without their line feeds
abbrev lines_of : List ℕ → List Entry → List (List ℕ)
lines_of digest es = (head_words Two ++ digest) ∷ map bare es

text_is : (digest : List ℕ) (s : Dims) (p : Policy) (n : ℕ) (es : List Entry) → Each (IsBack s p n) es → journal2_text digest es ≡ flat_map (λ text. text ++ 10 ∷ []) (lines_of digest es)
text_is digest s p n es each = ap (λ (l : List ℕ). head_line Two digest ++ l) (joined s p n es each)

its_lines : (digest : List ℕ) (s : Dims) (p : Policy) (n : ℕ) (es : List Entry) → is_digest digest ≡ true → Each (IsBack s p n) es → ended_lines (journal2_text digest es) ≡ lines_of digest es
its_lines digest s p n es lower each = ap ended_lines (text_is digest s p n es each) ∙ lines_again (lines_of digest es) (head_clean Two digest lower, clean_lines s p n es each)

whole_back : (digest : List ℕ) (s : Dims) (p : Policy) (n : ℕ) (es : List Entry) → is_digest digest ≡ true → Each (IsBack s p n) es → recovered digest s p n (journal2_text digest es) ≡ Ok es
unfolding recovered
whole_back digest s p n es lower each =
    ap (recovered_from digest s p n (journal2_text digest es)) (its_lines digest s p n es lower each)
    ∙ ap (with_version digest s p n (head_words Two ++ digest) (map bare es)) (reads_two digest lower)
    ∙ ap (λ (t : Bool). if t then lines_in s p n Two (map bare es) else Err (OtherCube digest digest)) ((bytes_eq-Decides digest digest).1 refl)
    ∙ lines_back s p n es each

all_back : (s : Dims) (p : Policy) (n : ℕ) (es : List Entry) → IsWithoutRequests s p n es → Each (IsBack s p n) es
all_back s p n es is = each_back s p n es is.dims is.few_measures is.few_places is.no_requests is.sound

pub second_reads_back : SecondReadsBack
second_reads_back digest s p n es lower is = whole_back digest s p n es lower (all_back s p n es is)

pub second_is_short : SecondIsShort
second_is_short digest s p n es lower is = omega (arith, head_length Two digest lower, short_lines s p n es (all_back s p n es is), length-append (head_line Two digest) (flat_map entry_line es))

pub second_is_kept : SecondIsKept
second_is_kept digest s p n head es lower is =
    ap (kept_from head) (its_lines digest s p n es lower (all_back s p n es is)) ∙ sym (text_is digest s p n es (all_back s p n es is))
