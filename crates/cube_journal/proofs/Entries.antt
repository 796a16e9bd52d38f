-- The lines of a journal, one behind another.
use Rattle.std.proofs.Common.{◌≡◌, ℕ, ◌+◌, List, [], ◌∷◌, ◌++◌, length, Bool, true, false, not, ◌&&◌, ◌||◌, is_some, Option, Some, option_to_list, refl, sym, ◌∙◌, ap, arith, append_assoc, length-append, Ok, Err}
use Rattle.std.specs.List.{list_any}
use Rattle.std.proofs.lemmas.List.{append-nil}
use Rattle.std.proofs.lemmas.Grind.{flat_map-append}
use Rattle.cube_model.specs.Checks.{check, in_turn, unless}
use Rattle.cube_model.specs.Dims.{Dims}
use Rattle.cube_model.specs.declared.entry.Entry.{Entry}
use Rattle.cube_model.specs.declared.policy.Policy.{Policy}
use Rattle.cube_journal.specs.Recovery.{entry_of, is_request_line, is_sound, is_second, may_hold, damage, entries_in, lines_in}
use Rattle.cube_journal.specs.declared.fault.JournalFault.{JournalFault}
use Rattle.cube_journal.specs.declared.fault.JournalFault.TheVariants.{Damaged}
use Rattle.cube_journal.specs.declared.first.Version.{Version}

-- the faults of all lines are those of the rest, given the earlier ones
pub record Reads (s : Dims) (p : Policy) (n : ℕ) (version : Version) (whole rest : List (List ℕ)) (history : List Entry) (line : ℕ) (holds : Bool) : Type 0 where
  pub earlier : List (List ℕ)
  pub split : whole ≡ earlier ++ rest
  pub faults : in_turn (damage s p n version) [] whole ≡ in_turn (damage s p n version) earlier rest
  pub entries : history ≡ entries_in s p n earlier
  pub number : line ≡ length earlier + 2
  pub may : holds ≡ may_hold version earlier

pub reads_start : (s : Dims) (p : Policy) (n : ℕ) (version : Version) (whole : List (List ℕ)) (history : List Entry) (holds : Bool) → history ≡ [] → holds ≡ is_second version → Reads s p n version whole whole history 2 holds
reads_start s p n version whole history holds none may = record { earlier = []; split = refl; faults = refl; entries = none; number = refl; may = may ∙ by (is_second version) }
  where
    by : (t : Bool) → t ≡ (t && true)
    by true = refl
    by false = refl

sound_check : (t : Bool) (f : JournalFault) → t ≡ true → check (not t) f ≡ []
sound_check true f e = refl
sound_check false f e = absurd (cc)

pub any_more : (q : List ℕ → Bool) (xs : List (List ℕ)) (x : List ℕ) → list_any q (xs ++ x ∷ []) ≡ (list_any q xs || q x)
any_more q [] x = by (q x)
  where
    by : (t : Bool) → (t || false) ≡ (false || t)
    by true = refl
    by false = refl
any_more q (y ∷ xs) x = by (q y) (any_more q xs x)
  where
    by : (t : Bool) → list_any q (xs ++ x ∷ []) ≡ (list_any q xs || q x) → (t || list_any q (xs ++ x ∷ [])) ≡ ((t || list_any q xs) || q x)
    by true e = refl
    by false e = e

holds_more : (second before here : Bool) → ((second && not before) && not here) ≡ (second && not (before || here))
holds_more true true here = refl
holds_more true false here = refl
holds_more false before here = refl

pub reads_more : (s : Dims) (p : Policy) (n : ℕ) (version : Version) (whole rest : List (List ℕ)) (text : List ℕ) (history : List Entry) (entry : Entry) (line : ℕ) (holds : Bool)
    → Reads s p n version whole (text ∷ rest) history line holds → entry_of s p n text ≡ Some entry → true ≡ (is_some (entry_of s p n text) && (is_request_line text || holds))
    → Reads s p n version whole rest (history ++ entry ∷ []) (line + 1) (holds && not (is_request_line text))
reads_more s p n version whole rest text history entry line holds r is sound = record {
  earlier = r.earlier ++ text ∷ [];
  split = r.split ∙ sym (append_assoc r.earlier (text ∷ []) rest);
  faults =
      let t : is_sound s p n version r.earlier text ≡ true = ap (λ (h : Bool). is_some (entry_of s p n text) && (is_request_line text || h)) (sym r.may) ∙ sym sound in
      r.faults ∙ ap (λ (l : List JournalFault). l ++ in_turn (damage s p n version) (r.earlier ++ text ∷ []) rest) (sound_check (is_sound s p n version r.earlier text) (Damaged (length r.earlier + 2)) t);
  entries = ap (λ (l : List Entry). l ++ entry ∷ []) r.entries ∙ ap (λ (e : Option Entry). entries_in s p n r.earlier ++ option_to_list e) (sym is) ∙ ap (λ (l : List Entry). entries_in s p n r.earlier ++ l) (sym (append-nil (option_to_list (entry_of s p n text)))) ∙ sym (flat_map-append (λ text. option_to_list (entry_of s p n text)) r.earlier (text ∷ []));
  number = omega (arith, r.number, length-append r.earlier (text ∷ []));
  may = ap (λ (h : Bool). h && not (is_request_line text)) r.may ∙ holds_more (is_second version) (list_any is_request_line r.earlier) (is_request_line text) ∙ ap (λ (h : Bool). is_second version && not h) (sym (any_more is_request_line r.earlier text));
}

pub reads_end : (s : Dims) (p : Policy) (n : ℕ) (version : Version) (whole rest : List (List ℕ)) (history : List Entry) (line : ℕ) (holds : Bool) → Reads s p n version whole rest history line holds → rest ≡ [] → lines_in s p n version whole ≡ Ok history
reads_end s p n version whole rest history line holds r none =
    let all : whole ≡ r.earlier = r.split ∙ ap (λ (l : List (List ℕ)). r.earlier ++ l) none ∙ append-nil r.earlier in
    ap (λ (l : List JournalFault). unless l (entries_in s p n whole)) (r.faults ∙ ap (in_turn (damage s p n version) r.earlier) none) ∙ ap Ok (ap (entries_in s p n) all ∙ sym r.entries)

unsound_check : (t : Bool) (f : JournalFault) → t ≡ false → check (not t) f ≡ f ∷ []
unsound_check true f e = absurd (cc)
unsound_check false f e = refl

pub reads_fail : (s : Dims) (p : Policy) (n : ℕ) (version : Version) (whole rest : List (List ℕ)) (text : List ℕ) (history : List Entry) (line : ℕ) (holds : Bool)
    → Reads s p n version whole (text ∷ rest) history line holds → false ≡ (is_some (entry_of s p n text) && (is_request_line text || holds)) → lines_in s p n version whole ≡ Err (Damaged line)
reads_fail s p n version whole rest text history line holds r unsound =
    let t : is_sound s p n version r.earlier text ≡ false = ap (λ (h : Bool). is_some (entry_of s p n text) && (is_request_line text || h)) (sym r.may) ∙ sym unsound in
    ap (λ (l : List JournalFault). unless l (entries_in s p n whole)) (r.faults ∙ ap (λ (l : List JournalFault). l ++ in_turn (damage s p n version) (r.earlier ++ text ∷ []) rest) (unsound_check (is_sound s p n version r.earlier text) (Damaged (length r.earlier + 2)) t))
    ∙ ap (λ (k : ℕ). Err (Damaged k)) (sym r.number)
