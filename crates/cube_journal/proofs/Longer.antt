-- A log with the line of one more request, and what the entries of a log are.
use Rattle.std.proofs.Common.{◌≡◌, ◌⊎◌, inl, inr, ℕ, ◌+◌, Bool, true, false, ◌&&◌, ◌||◌, not, cond, List, [], ◌∷◌, ◌++◌, length, drop, codes, nat_eq, Option, Some, None, is_some, option_to_list, refl, sym, ◌∙◌, ap, subst, append_assoc, Result, Ok, Err, get_or}
use Rattle.std.specs.List.{starts_with}
use Rattle.std.specs.Str.{bytes_eq}
use Rattle.std.proofs.lemmas.Grind.{flat_map-append}
use Rattle.std.proofs.lemmas.List.{append-nil}
use Rattle.std.proofs.lemmas.Slice.Eq.{bytes_eq-Decides}
use Rattle.cube_model.specs.Checks.{check, in_turn, unless}
use Rattle.cube_model.specs.Cubes.{Each, are_levels}
use Rattle.cube_model.specs.Dims.{Dims, IsDims, plains}
use Rattle.cube_model.specs.Entries.{is_link}
use Rattle.cube_model.specs.Protection.{is_lattice, is_parity}
use Rattle.cube_model.specs.declared.entry.Entry.{Entry}
use Rattle.cube_model.specs.declared.entry.Entry.TheVariants.{Asked, Source, Linked}
use Rattle.cube_model.specs.declared.link.Link.{Link}
use Rattle.cube_model.specs.declared.link.Link.TheVariants.{Pair, Single}
use Rattle.cube_model.specs.declared.policy.Method.TheVariants.{Plain}
use Rattle.cube_model.specs.declared.policy.Policy.{Policy}
use Rattle.cube_model.specs.declared.request.Request.{Request}
use Rattle.cube_query.specs.Canonical.{is_request, request_text}
use Rattle.cube_query.specs.Faults.{request_of}
use Rattle.cube_query.specs.declared.fault.RequestFault.{RequestFault}
use Rattle.cube_query.proofs.Back.{reads_back}
use Rattle.cube_query.proofs.Valid.{read_is_valid}
use Rattle.cube_journal.specs.Lines.{IsPrefix, IsInLine, IsEnded, ended_lines}
use Rattle.cube_journal.specs.Recovery.{first_line, entry_of, asked_if, is_controlled, is_request_line, may_hold, damage, entries_in, lines_in, with_version, version_of, recovered_from, recovered, source_of, link_of, linked_if, numbers_of, fields}
use Rattle.cube_journal.specs.Laws.{LogsGrow, EntriesAreSound}
use Rattle.cube_journal.specs.RequestLines.{request_line}
use Rattle.cube_journal.specs.Sound.{IsSound}
use Rattle.cube_journal.specs.declared.fault.JournalFault.{JournalFault}
use Rattle.cube_journal.specs.declared.fault.JournalFault.TheVariants.{Damaged, OtherCube}
use Rattle.cube_journal.specs.declared.first.Version.{Version}
use Rattle.cube_journal.proofs.Lengths.{line_fits}
use Rattle.cube_journal.proofs.LineFacts.{one_more, torn_lines, lines_split}
use Rattle.cube_journal.proofs.Recovering.{same_lines}

-- ---- the entry of a request's line

pub request_entry : (s : Dims) (p : Policy) (n : ℕ) (r : Request) → IsDims s → is_request s r ≡ true → is_controlled p r.what ≡ true → entry_of s p n (codes "q " ++ request_text s r) ≡ Some (Asked r)
unfolding entry_of
request_entry s p n r dims valid controlled =
    ap (asked_if s p (request_text s r)) (reads_back s r dims valid)
    ∙ ap (λ (b : Bool). cond (b && is_controlled p r.what) (Some (Asked r)) None) ((bytes_eq-Decides (request_text s r) (request_text s r)).1 refl)
    ∙ ap (λ (b : Bool). cond (true && b) (Some (Asked r)) None) controlled

-- ---- one line more

turn_more : (f : List (List ℕ) → List ℕ → List JournalFault) (earlier xs : List (List ℕ)) (x : List ℕ) → in_turn f earlier (xs ++ x ∷ []) ≡ in_turn f earlier xs ++ f (earlier ++ xs) x
turn_more f earlier [] x = append-nil (f earlier x) ∙ ap (λ (l : List (List ℕ)). f l x) (sym (append-nil earlier))
turn_more f earlier (y ∷ xs) x =
    ap (λ (l : List JournalFault). f earlier y ++ l) (turn_more f (earlier ++ y ∷ []) xs x ∙ ap (λ (l : List (List ℕ)). in_turn f (earlier ++ y ∷ []) xs ++ f l x) (append_assoc earlier (y ∷ []) xs))
    ∙ sym (append_assoc (f earlier y) (in_turn f (earlier ++ y ∷ []) xs) (f (earlier ++ y ∷ xs) x))

no_faults : (fs : List JournalFault) (x y : List Entry) → unless fs x ≡ Ok y → (fs ≡ []) × (x ≡ y)
no_faults [] x y e = (refl, cc)
no_faults (f ∷ fs) x y e = absurd (cc)

is_fine : (s : Dims) (p : Policy) (n : ℕ) (version : Version) (earlier : List (List ℕ)) (text : List ℕ) (e : Entry) → entry_of s p n text ≡ Some e → is_request_line text ≡ true → damage s p n version earlier text ≡ []
is_fine s p n version earlier text e is asks =
    ap (λ (o : Option Entry). check (not (is_some o && (is_request_line text || may_hold version earlier))) (Damaged (length earlier + 2))) is
    ∙ ap (λ (b : Bool). check (not (true && (b || may_hold version earlier))) (Damaged (length earlier + 2))) asks

lines_more : (s : Dims) (p : Policy) (n : ℕ) (version : Version) (texts : List (List ℕ)) (text : List ℕ) (es : List Entry) (e : Entry) → lines_in s p n version texts ≡ Ok es → entry_of s p n text ≡ Some e → is_request_line text ≡ true
    → lines_in s p n version (texts ++ text ∷ []) ≡ Ok (es ++ e ∷ [])
lines_more s p n version texts text es e was is asks =
    let before = no_faults (in_turn (damage s p n version) [] texts) (entries_in s p n texts) es was in
    let none : in_turn (damage s p n version) [] (texts ++ text ∷ []) ≡ [] = turn_more (damage s p n version) [] texts text ∙ ap (λ (l : List JournalFault). l ++ damage s p n version texts text) before.0 ∙ is_fine s p n version texts text e is asks in
    let more : entries_in s p n (texts ++ text ∷ []) ≡ es ++ e ∷ [] =
    flat_map-append (λ t. option_to_list (entry_of s p n t)) texts (text ∷ []) ∙ ap (λ (l : List Entry). l ++ entries_in s p n (text ∷ [])) before.1 ∙ ap (λ (o : Option Entry). es ++ (option_to_list o ++ [])) is in
    ap (λ (l : List JournalFault). unless l (entries_in s p n (texts ++ text ∷ []))) none ∙ ap Ok more

versioned_more : (digest : List ℕ) (s : Dims) (p : Policy) (n : ℕ) (first : List ℕ) (texts : List (List ℕ)) (version : Option Version) (text : List ℕ) (es : List Entry) (e : Entry)
    → with_version digest s p n first texts version ≡ Ok es → entry_of s p n text ≡ Some e → is_request_line text ≡ true → with_version digest s p n first (texts ++ text ∷ []) version ≡ Ok (es ++ e ∷ [])
versioned_more digest s p n first texts None text es e was is asks = absurd (cc)
versioned_more digest s p n first texts (Some version) text es e was is asks = go (bytes_eq (drop 15 first) digest) was
  where
    go : (b : Bool) → cond b (lines_in s p n version texts) (Err (OtherCube (drop 15 first) digest)) ≡ Ok es → cond b (lines_in s p n version (texts ++ text ∷ [])) (Err (OtherCube (drop 15 first) digest)) ≡ Ok (es ++ e ∷ [])
    go true was = lines_more s p n version texts text es e was is asks
    go false was = absurd (cc)

from_more : (digest : List ℕ) (s : Dims) (p : Policy) (n : ℕ) (x y : List ℕ) (ls : List (List ℕ)) (text : List ℕ) (es : List Entry) (e : Entry) → (ls ≡ [] → ⊥) → recovered_from digest s p n x ls ≡ Ok es → entry_of s p n text ≡ Some e → is_request_line text ≡ true
    → recovered_from digest s p n y (ls ++ text ∷ []) ≡ Ok (es ++ e ∷ [])
from_more digest s p n x y [] text es e some was is asks = absurd (some refl)
from_more digest s p n x y (first ∷ texts) text es e some was is asks = versioned_more digest s p n first texts (version_of first) text es e was is asks

recovers_more : (digest : List ℕ) (s : Dims) (p : Policy) (n : ℕ) (safe bytes text : List ℕ) (es : List Entry) (e : Entry) → (ended_lines safe ≡ [] → ⊥) → ended_lines bytes ≡ ended_lines safe ++ text ∷ [] → recovered digest s p n safe ≡ Ok es → entry_of s p n text ≡ Some e → is_request_line text ≡ true
    → recovered digest s p n bytes ≡ Ok (es ++ e ∷ [])
unfolding recovered
recovers_more digest s p n safe bytes text es e some lines was is asks = ap (recovered_from digest s p n bytes) lines ∙ from_more digest s p n safe bytes (ended_lines safe) text es e some was is asks

-- ---- the line of one more request, or its beginning, behind ended lines

-- a request of these dimensions, on a measure under control
record IsNext (s : Dims) (p : Policy) (r : Request) : Type 0 where
  dims : IsDims s
  valid : is_request s r ≡ true
  controlled : is_controlled p r.what ≡ true

cut_last : (xs ys : List ℕ) → xs ++ 10 ∷ [] ≡ ys ++ 10 ∷ [] → xs ≡ ys
cut_last [] [] e = refl
cut_last [] (y ∷ []) e = absurd (cc)
cut_last [] (y ∷ z ∷ ys) e = absurd (cc)
cut_last (x ∷ []) [] e = absurd (cc)
cut_last (x ∷ z ∷ xs) [] e = absurd (cc)
cut_last (x ∷ xs) (y ∷ ys) e =
    let here : x ≡ y = cc in
    let there : xs ++ 10 ∷ [] ≡ ys ++ 10 ∷ [] = cc in
    ap (λ (l : List ℕ). x ∷ l) (cut_last xs ys there) ∙ ap (λ (b : ℕ). b ∷ ys) here

line_is : (s : Dims) (r : Request) → request_line s r ≡ (codes "q " ++ request_text s r) ++ 10 ∷ []
line_is s r = sym (append_assoc (codes "q ") (request_text s r) (10 ∷ []))

clean : (s : Dims) (r : Request) → IsDims s → IsInLine (codes "q " ++ request_text s r)
clean s r dims =
    let is = (line_fits s r dims).0 in
    subst IsInLine (cut_last is.text (codes "q " ++ request_text s r) (sym is.ended ∙ line_is s r)) is.clean

next_recovers : (digest : List ℕ) (s : Dims) (p : Policy) (n : ℕ) (safe : List ℕ) (es : List Entry) (r : Request) → IsEnded safe → (ended_lines safe ≡ [] → ⊥) → IsNext s p r → recovered digest s p n safe ≡ Ok es
    → recovered digest s p n (safe ++ request_line s r) ≡ Ok (es ++ Asked r ∷ [])
next_recovers digest s p n safe es r ended some is was =
    recovers_more digest s p n safe (safe ++ request_line s r) (codes "q " ++ request_text s r) es (Asked r) some (one_more safe (request_line s r) (codes "q " ++ request_text s r) ended (line_is s r) (clean s r is.dims)) was (request_entry s p n r is.dims is.valid is.controlled) refl

-- behind a part of it nothing more is recovered, or all of it
part_recovers : (digest : List ℕ) (s : Dims) (p : Policy) (n : ℕ) (safe part : List ℕ) (es : List Entry) (r : Request) → IsEnded safe → (ended_lines safe ≡ [] → ⊥) → IsNext s p r → recovered digest s p n safe ≡ Ok es → IsPrefix part (request_line s r)
    → (recovered digest s p n (safe ++ part) ≡ Ok es) ⊎ (recovered digest s p n (safe ++ part) ≡ Ok (es ++ Asked r ∷ []))
part_recovers digest s p n safe part es r ended some is was prefix = go (torn_lines (codes "q " ++ request_text s r) part prefix.0 (clean s r is.dims) (prefix.1 ∙ line_is s r))
  where
    split : ended_lines (safe ++ part) ≡ ended_lines safe ++ ended_lines part
    split = lines_split safe part ended

    go : (ended_lines part ≡ []) ⊎ (ended_lines part ≡ (codes "q " ++ request_text s r) ∷ []) → (recovered digest s p n (safe ++ part) ≡ Ok es) ⊎ (recovered digest s p n (safe ++ part) ≡ Ok (es ++ Asked r ∷ []))
    go (inl none) = inl (same_lines digest s p n (safe ++ part) safe some (split ∙ ap (λ (l : List (List ℕ)). ended_lines safe ++ l) none ∙ append-nil (ended_lines safe)) ∙ was)
    go (inr one) = inr (recovers_more digest s p n safe (safe ++ part) (codes "q " ++ request_text s r) es (Asked r) some (split ∙ ap (λ (l : List (List ℕ)). ended_lines safe ++ l) one) was (request_entry s p n r is.dims is.valid is.controlled) refl)

pub logs_grow : LogsGrow
logs_grow digest s p n safe es r dims valid controlled ended some was =
    let is : IsNext s p r = record { dims = dims; valid = valid; controlled = controlled } in
    record {
      whole = next_recovers digest s p n safe es r ended some is was;
      part = λ part prefix. part_recovers digest s p n safe part es r ended some is was prefix;
    }

-- ---- what the entries are

some_is : (x y : Entry) → Some x ≡ Some y → x ≡ y
some_is x y e = cc

sound_source : (s : Dims) (p : Policy) (n : ℕ) (numbers : Option (List ℕ)) (e : Entry) → source_of s p numbers ≡ Some e → IsSound s p n e
sound_source s p n None e is = absurd (cc)
sound_source s p n (Some []) e is = absurd (cc)
sound_source s p n (Some (m ∷ levels)) e is = go (is_lattice (get_or p.methods m Plain) && are_levels (plains s) levels) refl is
  where
    go : (b : Bool) → (is_lattice (get_or p.methods m Plain) && are_levels (plains s) levels) ≡ b → cond b (Some (Source m levels)) None ≡ Some e → IsSound s p n e
    go true t is = subst (IsSound s p n) (some_is (Source m levels) e is) t
    go false t is = absurd (cc)

sound_link_if : (s : Dims) (p : Policy) (n m : ℕ) (l : Link) (e : Entry) → linked_if p n m l ≡ Some e → IsSound s p n e
sound_link_if s p n m l e is = go (is_parity (get_or p.methods m Plain) && is_link n l) refl is
  where
    go : (b : Bool) → (is_parity (get_or p.methods m Plain) && is_link n l) ≡ b → cond b (Some (Linked m l)) None ≡ Some e → IsSound s p n e
    go true t is = subst (IsSound s p n) (some_is (Linked m l) e is) t
    go false t is = absurd (cc)

sound_link : (s : Dims) (p : Policy) (n : ℕ) (numbers : Option (List ℕ)) (e : Entry) → link_of p n numbers ≡ Some e → IsSound s p n e
sound_link s p n None e is = absurd (cc)
sound_link s p n (Some []) e is = absurd (cc)
sound_link s p n (Some (m ∷ [])) e is = absurd (cc)
sound_link s p n (Some (m ∷ i ∷ [])) e is = sound_link_if s p n m (Single i) e is
sound_link s p n (Some (m ∷ i ∷ j ∷ [])) e is = sound_link_if s p n m (Pair i j) e is
sound_link s p n (Some (m ∷ i ∷ j ∷ k ∷ more)) e is = absurd (cc)

sound_asked : (s : Dims) (p : Policy) (n : ℕ) (text : List ℕ) (read : Result Request RequestFault) (e : Entry) → IsDims s → request_of s text ≡ read → asked_if s p text read ≡ Some e → IsSound s p n e
sound_asked s p n text (Err fault) e dims was is = absurd (cc)
sound_asked s p n text (Ok r) e dims was is = go (bytes_eq (request_text s r) text && is_controlled p r.what) is
  where
    go : (b : Bool) → cond b (Some (Asked r)) None ≡ Some e → IsSound s p n e
    go true is = subst (IsSound s p n) (some_is (Asked r) e is) (read_is_valid s text r dims was)
    go false is = absurd (cc)

sound_entry : (s : Dims) (p : Policy) (n : ℕ) (text : List ℕ) (e : Entry) → IsDims s → entry_of s p n text ≡ Some e → IsSound s p n e
unfolding entry_of
sound_entry s p n text e dims is = go (is_request_line text) (starts_with nat_eq text (codes "s ")) (starts_with nat_eq text (codes "k ")) is
  where
    go : (q a b : Bool) → cond q (asked_if s p (drop 2 text) (request_of s (drop 2 text))) (cond a (source_of s p (numbers_of (fields (drop 2 text)))) (cond b (link_of p n (numbers_of (fields (drop 2 text)))) None)) ≡ Some e → IsSound s p n e
    go true a b is = sound_asked s p n (drop 2 text) (request_of s (drop 2 text)) e dims refl is
    go false true b is = sound_source s p n (numbers_of (fields (drop 2 text))) e is
    go false false true is = sound_link s p n (numbers_of (fields (drop 2 text))) e is
    go false false false is = absurd (cc)

sound_lines : (s : Dims) (p : Policy) (n : ℕ) (texts : List (List ℕ)) → IsDims s → Each (IsSound s p n) (entries_in s p n texts)
sound_lines s p n [] dims = tt
sound_lines s p n (text ∷ texts) dims = go (entry_of s p n text) refl (sound_lines s p n texts dims)
  where
    go : (o : Option Entry) → entry_of s p n text ≡ o → Each (IsSound s p n) (entries_in s p n texts) → Each (IsSound s p n) (option_to_list o ++ entries_in s p n texts)
    go None is more = more
    go (Some e) is more = (sound_entry s p n text e dims is, more)

sound_versioned : (digest : List ℕ) (s : Dims) (p : Policy) (n : ℕ) (first : List ℕ) (texts : List (List ℕ)) (version : Option Version) (es : List Entry) → IsDims s → with_version digest s p n first texts version ≡ Ok es → Each (IsSound s p n) es
sound_versioned digest s p n first texts None es dims was = absurd (cc)
sound_versioned digest s p n first texts (Some version) es dims was = go (bytes_eq (drop 15 first) digest) was
  where
    go : (b : Bool) → cond b (lines_in s p n version texts) (Err (OtherCube (drop 15 first) digest)) ≡ Ok es → Each (IsSound s p n) es
    go true was = subst (Each (IsSound s p n)) (no_faults (in_turn (damage s p n version) [] texts) (entries_in s p n texts) es was).1 (sound_lines s p n texts dims)
    go false was = absurd (cc)

abbrev Read : Type 0
Read = Result (List Entry) JournalFault

ok_is : (x y : List Entry) → ◌≡◌ {A = Read} (Ok x) (Ok y) → x ≡ y
ok_is x y e = cc

sound_from : (digest : List ℕ) (s : Dims) (p : Policy) (n : ℕ) (bytes : List ℕ) (ls : List (List ℕ)) (es : List Entry) → IsDims s → recovered_from digest s p n bytes ls ≡ Ok es → Each (IsSound s p n) es
sound_from digest s p n bytes [] es dims was = go (starts_with nat_eq (first_line digest) bytes) was
  where
    go : (b : Bool) → cond b (Ok []) (Err (Damaged 1)) ≡ Ok es → Each (IsSound s p n) es
    go true was = subst (Each (IsSound s p n)) (ok_is [] es was) tt
    go false was = absurd (cc)
sound_from digest s p n bytes (first ∷ texts) es dims was = sound_versioned digest s p n first texts (version_of first) es dims was

pub entries_are_sound : EntriesAreSound
unfolding recovered
entries_are_sound digest s p n bytes es dims was = sound_from digest s p n bytes (ended_lines bytes) es dims was
