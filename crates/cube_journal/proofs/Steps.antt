-- What the steps of a keep leave.
use Rattle.std.proofs.Common.{◌≡◌, ◌⊎◌, inl, inr, ⊎_elim, ℕ, ◌+◌, ◌≤◌, Bool, true, false, nat_lt, List, [], ◌∷◌, ◌++◌, length, take, drop, refl, sym, ◌∙◌, ap, subst, arith, append_assoc, length-append, Result, Ok, Err, OnOk, OnErr}
use Rattle.std.proofs.lemmas.Bool.Decides.{nat_tests}
use Rattle.std.proofs.lemmas.List.{append-nil, drop_at, take_at, drop_all}
use Rattle.cube_io.specs.declared.faults.Failed.{Failed}
use Rattle.cube_model.specs.Cubes.{Each, IsIn}
use Rattle.cube_io.specs.States.{State, Log, IsImage, IsWhole, IsInCut, IsInSync, Gained, Appended, Cut, Synced, settled, appended, shortened, shortened_if, grown, joined, last_of}
use Rattle.cube_io.proofs.Trails.{each_append, each_map, each_in, each_self, gained_then, gained_map, passed_gained, passed_last, cut_gained, cut_last, sync_gained, sync_last}
use Rattle.cube_journal.specs.Lines.{IsLine, IsEnded, IsPrefix}
use Rattle.cube_journal.specs.Keeping.{IsTorn, Fits, KeepsSafe, IsInKeep, IsBeforeOrBegun, HasAtMostOneMore, LeavesKept, Journal}
use Rattle.cube_journal.proofs.LineFacts.{at_most_one_more, ended_line}

pub keeps_itself : (line : List ℕ) (s : State) → KeepsSafe line s s
keeps_itself line s = record { safe = refl; tails = each_self (λ t. IsIn t s.tails ⊎ IsPrefix t line) s.tails (λ t i. inl i) }

pub keeps_settled : (line : List ℕ) (s : State) → KeepsSafe line s (settled s.safe)
keeps_settled line s = record { safe = refl; tails = (inr (line, refl), tt) }

keeps_more : (line : List ℕ) (old s t : State) (tail : List ℕ) → KeepsSafe line old s → t.safe ≡ s.safe → t.tails ≡ s.tails ++ tail ∷ [] → IsPrefix tail line → KeepsSafe line old t
keeps_more line old s t tail keeps safe tails prefix = record {
  safe = safe ∙ keeps.safe;
  tails = subst (Each (λ t. IsIn t old.tails ⊎ IsPrefix t line)) (sym tails) (each_append (λ t. IsIn t old.tails ⊎ IsPrefix t line) s.tails (tail ∷ []) keeps.tails (inr prefix, tt));
}

pub within : (s : State) (kept : ℕ) → IsWhole s → length s.safe ≡ kept → kept ≤ length s.now
within s kept w is = omega (arith, ap length w.2, length-append s.safe w.0)

-- a cut to the safe part
back : (s : State) (kept : ℕ) → length s.safe ≡ kept → shortened s kept ≡ shortened_if false s kept
back s kept is = let e : nat_lt kept (length s.safe) ≡ false = grind (arith, nat_tests) in ap (λ (b : Bool). shortened_if b s kept) e

front_is_safe : (s : State) (kept : ℕ) → IsWhole s → length s.safe ≡ kept → take kept s.now ≡ s.safe
front_is_safe s kept w is = ap (λ (l : List ℕ). take kept l) (sym w.2) ∙ take_at s.safe w.0 kept is

cut_tail : (s : State) (kept : ℕ) → IsWhole s → length s.safe ≡ kept → drop (length s.safe) (take kept s.now) ≡ []
cut_tail s kept w is = ap (λ (l : List ℕ). drop (length s.safe) l) (front_is_safe s kept w is) ∙ drop_all (length s.safe) s.safe (omega arith)

pub keeps_cut : (s : State) (kept : ℕ) → IsWhole s → length s.safe ≡ kept → (t : State) → IsInCut s kept t → KeepsSafe [] s t
keeps_cut s kept w is t (inl e) = subst (KeepsSafe [] s) (sym e) (keeps_itself [] s)
keeps_cut s kept w is t (inr (inl e)) = keeps_more [] s s t _ (keeps_itself [] s) (ap (λ (x : State). x.safe) e ∙ ap (λ (x : State). x.safe) (back s kept is)) (ap (λ (x : State). x.tails) e ∙ ap (λ (x : State). x.tails) (back s kept is)) ([], append-nil _ ∙ cut_tail s kept w is)
keeps_cut s kept w is t (inr (inr e)) = keeps_more [] s s t _ (keeps_itself [] s) (ap (λ (x : State). x.safe) (e ∙ back s kept is)) (ap (λ (x : State). x.tails) (e ∙ back s kept is)) ([], append-nil _ ∙ cut_tail s kept w is)

cut_now : (s t : State) (kept : ℕ) → IsWhole s → length s.safe ≡ kept → t ≡ shortened s kept → t.now ≡ s.safe
cut_now s t kept w is e = ap (λ (x : State). x.now) (e ∙ back s kept is) ∙ front_is_safe s kept w is

-- a sync behind such a cut
keeps_sync : (s m : State) → KeepsSafe [] s m → m.now ≡ s.safe → (t : State) → IsInSync m t → KeepsSafe [] s t
keeps_sync s m keeps now t (inl e) = subst (KeepsSafe [] s) (sym e) keeps
keeps_sync s m keeps now t (inr e) = subst (KeepsSafe [] s) (sym (e ∙ ap settled now)) (keeps_settled [] s)

pub mend_stops : (a b : Log) (kept : ℕ) → IsWhole a.state → length a.state.safe ≡ kept → Cut kept a b → Gained (KeepsSafe [] a.state) a b × KeepsSafe [] a.state b.state
mend_stops a b kept w is cut = (cut_gained (KeepsSafe [] a.state) kept a b cut (keeps_cut a.state kept w is), cut_last (KeepsSafe [] a.state) kept a b cut (keeps_cut a.state kept w is))

pub mend_goes : (a b c : Log) (kept : ℕ) → IsWhole a.state → length a.state.safe ≡ kept → Cut kept a b → b.state ≡ shortened a.state kept → Synced b c → Gained (KeepsSafe [] a.state) a c × KeepsSafe [] a.state c.state
mend_goes a b c kept w is cut done sync =
    let first = mend_stops a b kept w is cut in
    let now = cut_now a.state b.state kept w is done in
    let after = keeps_sync a.state b.state first.1 now in
    (gained_then (KeepsSafe [] a.state) a b c first.0 (sync_gained (KeepsSafe [] a.state) b c sync after), sync_last (KeepsSafe [] a.state) b c sync after)

pub mend_done : (r : Result (Unit {0}) Failed) (a b c : Log) (kept : ℕ) → IsWhole a.state → length a.state.safe ≡ kept → b.state ≡ shortened a.state kept → OnOk r (c.state ≡ settled b.state.now) → OnOk r (c.state ≡ settled a.state.safe)
mend_done (Ok u) a b c kept w is done e = e ∙ ap settled (cut_now a.state b.state kept w is done)
mend_done (Err f) a b c kept w is done e = tt

-- the states that the parts of a line leave
grown_keeps : (line : List ℕ) (old s : State) (said rest : List ℕ) (parts : List (List ℕ)) → KeepsSafe line old s → s.now ≡ old.safe ++ said → said ++ (joined parts ++ rest) ≡ line → Each (KeepsSafe line old) (grown s parts)
grown_keeps line old s said rest [] keeps now split = tt
grown_keeps line old s said rest (p ∷ ps) keeps now split =
    let now' : s.now ++ p ≡ old.safe ++ (said ++ p) = ap (λ (l : List ℕ). l ++ p) now ∙ append_assoc old.safe said p in
    let tail : drop (length s.safe) (s.now ++ p) ≡ said ++ p = ap (λ (l : List ℕ). drop (length s.safe) l) now' ∙ drop_at old.safe (said ++ p) (length s.safe) (sym (ap length keeps.safe)) in
    let split' : (said ++ p) ++ (joined ps ++ rest) ≡ line = append_assoc said p (joined ps ++ rest) ∙ ap (λ (l : List ℕ). said ++ l) (sym (append_assoc p (joined ps) rest)) ∙ split in
    let one : KeepsSafe line old (appended s p) = keeps_more line old s (appended s p) _ keeps refl refl (joined ps ++ rest, ap (λ (l : List ℕ). l ++ (joined ps ++ rest)) tail ∙ split') in
    (one, grown_keeps line old (appended s p) (said ++ p) rest ps one now' split')

grown_now : (s : State) (parts : List (List ℕ)) → (last_of s (grown s parts)).now ≡ s.now ++ joined parts
grown_now s [] = sym (append-nil s.now)
grown_now s (p ∷ ps) = grown_now (appended s p) ps ∙ append_assoc s.now p (joined ps)

pub put_stops : (a b : Log) (line unsaid : List ℕ) → a.state.now ≡ a.state.safe → Appended line unsaid a b → Gained (KeepsSafe line a.state) a b × KeepsSafe line a.state b.state
put_stops a b line unsaid quiet did =
    let each = grown_keeps line a.state a.state [] unsaid did.parts (keeps_itself line a.state) (quiet ∙ sym (append-nil a.state.safe)) (sym did.split) in
    (passed_gained (KeepsSafe line a.state) a b _ did.passed each, passed_last (KeepsSafe line a.state) a b _ did.passed (keeps_itself line a.state) each)

put_now : (a b : Log) (line unsaid : List ℕ) → a.state.now ≡ a.state.safe → Appended line unsaid a b → unsaid ≡ [] → b.state.now ≡ a.state.safe ++ line
put_now a b line unsaid quiet did none =
    ap (λ (x : State). x.now) did.passed.state ∙ grown_now a.state did.parts ∙ ap (λ (l : List ℕ). l ++ joined did.parts) quiet
    ∙ ap (λ (l : List ℕ). a.state.safe ++ l) (sym (did.split ∙ ap (λ (l : List ℕ). joined did.parts ++ l) none ∙ append-nil (joined did.parts)))

-- a sync behind the line
in_keep : (line : List ℕ) (old m : State) → KeepsSafe line old m → m.now ≡ old.safe ++ line → (t : State) → IsInSync m t → IsInKeep line old t
in_keep line old m keeps now t (inl e) = inl (subst (KeepsSafe line old) (sym e) keeps)
in_keep line old m keeps now t (inr e) = inr (e ∙ ap settled now)

pub put_fails : (a b : Log) (line unsaid : List ℕ) → a.state.now ≡ a.state.safe → Appended line unsaid a b → Gained (IsInKeep line a.state) a b
put_fails a b line unsaid quiet did = gained_map (KeepsSafe line a.state) (IsInKeep line a.state) a b (λ s k. inl k) (put_stops a b line unsaid quiet did).0

pub put_goes : (a b c : Log) (line unsaid : List ℕ) → a.state.now ≡ a.state.safe → Appended line unsaid a b → unsaid ≡ [] → Synced b c → Gained (IsInKeep line a.state) a c
put_goes a b c line unsaid quiet did none sync =
    gained_then (IsInKeep line a.state) a b c (put_fails a b line unsaid quiet did) (sync_gained (IsInKeep line a.state) b c sync (in_keep line a.state b.state (put_stops a b line unsaid quiet did).1 (put_now a b line unsaid quiet did none)))

pub put_done : (r : Result (Unit {0}) Failed) (a b c : Log) (line unsaid : List ℕ) → a.state.now ≡ a.state.safe → Appended line unsaid a b → unsaid ≡ [] → OnOk r (c.state ≡ settled b.state.now) → OnOk r (c.state ≡ settled (a.state.safe ++ line))
put_done (Ok u) a b c line unsaid quiet did none e = e ∙ ap settled (put_now a b line unsaid quiet did none)
put_done (Err f) a b c line unsaid quiet did none e = tt

pub put_undone : (r : Result (Unit {0}) Failed) (a b c : Log) (line unsaid : List ℕ) → a.state.now ≡ a.state.safe → Appended line unsaid a b → OnErr r (c.state ≡ b.state) → OnErr r (KeepsSafe line a.state c.state)
put_undone (Ok u) a b c line unsaid quiet did e = tt
put_undone (Err f) a b c line unsaid quiet did e = subst (KeepsSafe line a.state) (sym e) (put_stops a b line unsaid quiet did).1

-- two steps in a row
pub keeps_then : (line : List ℕ) (a b c : State) → KeepsSafe [] a b → KeepsSafe line b c → KeepsSafe line a c
keeps_then line a b c f g = record {
  safe = g.safe ∙ f.safe;
  tails = each_map (λ t. IsIn t b.tails ⊎ IsPrefix t line) (λ t. IsIn t a.tails ⊎ IsPrefix t line) c.tails
      (λ t. ⊎_elim (λ i. ⊎_elim (λ old. inl old) (λ p. inr (no_prefix t p)) (each_in (λ t. IsIn t a.tails ⊎ IsPrefix t []) b.tails t f.tails i)) (λ p. inr p)) g.tails;
}
  where
    no_prefix : (t : List ℕ) → IsPrefix t [] → IsPrefix t line
    no_prefix [] p = (line, refl)
    no_prefix (x ∷ xs) p = absurd (let e : x ∷ xs ++ p.0 ≡ [] = p.1 in cc)

pub keeps_wide : (line : List ℕ) (a s : State) → KeepsSafe [] a s → KeepsSafe line a s
keeps_wide line a s f = keeps_then line a s s f (keeps_itself line s)

pub widens : (line : List ℕ) (a s : State) → KeepsSafe [] a s → IsInKeep line a s
widens line a s f = inl (keeps_then line a s s f (keeps_itself line s))

in_keep_then : (line : List ℕ) (a b s : State) → KeepsSafe [] a b → IsInKeep line b s → IsInKeep line a s
in_keep_then line a b s f (inl g) = inl (keeps_then line a b s f g)
in_keep_then line a b s f (inr e) = inr (e ∙ ap (λ (l : List ℕ). settled (l ++ line)) f.safe)

pub keep_states : (line : List ℕ) (a b c : Log) → Gained (KeepsSafe [] a.state) a b → KeepsSafe [] a.state b.state → Gained (IsInKeep line b.state) b c → Gained (IsInKeep line a.state) a c
keep_states line a b c first keeps second =
    gained_then (IsInKeep line a.state) a b c (gained_map (KeepsSafe [] a.state) (IsInKeep line a.state) a b (λ s f. widens line a.state s f) first)
    (gained_map (IsInKeep line b.state) (IsInKeep line a.state) b c (λ s f. in_keep_then line a.state b.state s keeps f) second)

-- what a crash leaves of a state in a keep
torn_prefix : (kept lost line : List ℕ) → IsLine line → IsPrefix (kept ++ lost) line → IsTorn kept
torn_prefix kept lost line is p = (line, is, (lost ++ p.0, sym (append_assoc kept lost p.0) ∙ p.1))

torn_part : (kept lost : List ℕ) → IsTorn (kept ++ lost) → IsTorn kept
torn_part kept lost torn = torn_prefix kept lost torn.0 torn.1 torn.2

abbrev Left : List ℕ → State → List ℕ → Type 0
Left line a b = IsBeforeOrBegun line a b × HasAtMostOneMore a.safe b

begun_left : (line : List ℕ) (a : State) (b p : List ℕ) → IsEnded a.safe → IsLine line → IsPrefix p line → b ≡ a.safe ++ p → Left line a b
begun_left line a b p ended is prefix e =
    let torn : IsTorn p = (line, is, prefix) in
    (inr (p, prefix, e), subst (HasAtMostOneMore a.safe) (sym e) (at_most_one_more a.safe p ended torn))

before_left : (line : List ℕ) (a : State) (b kept lost : List ℕ) → IsEnded a.safe → Each IsTorn a.tails → IsIn (kept ++ lost) a.tails → b ≡ a.safe ++ kept → Left line a b
before_left line a b kept lost ended torn is e =
    (inl (record { kept = kept; lost = lost; is_tail = is; whole = e }), subst (HasAtMostOneMore a.safe) (sym e) (at_most_one_more a.safe kept ended (torn_part kept lost (each_in IsTorn a.tails (kept ++ lost) torn is))))

nothing_kept : (kept lost : List ℕ) → IsIn (kept ++ lost) ([] ∷ []) → kept ≡ []
nothing_kept [] lost i = refl
nothing_kept (x ∷ kept) lost (inl e) = cc
nothing_kept (x ∷ kept) lost (inr i) = absurd i

pub image_left : (line : List ℕ) (a s : State) → IsEnded a.safe → Each IsTorn a.tails → IsLine line → IsInKeep line a s → (b : List ℕ) → IsImage s b → Left line a b
image_left line a s ended torn is (inl keeps) b image =
    let e : b ≡ a.safe ++ image.kept = image.whole ∙ ap (λ (l : List ℕ). l ++ image.kept) keeps.safe in
    ⊎_elim (λ old. before_left line a b image.kept image.lost ended torn old e)
    (λ p. begun_left line a b image.kept ended is (image.lost ++ p.0, sym (append_assoc image.kept image.lost p.0) ∙ p.1) e)
    (each_in (λ t. IsIn t a.tails ⊎ IsPrefix t line) s.tails (image.kept ++ image.lost) keeps.tails image.is_tail)
image_left line a s ended torn is (inr same) b image =
    let tails : s.tails ≡ [] ∷ [] = ap (λ (x : State). x.tails) same in
    let nothing : image.kept ≡ [] = nothing_kept image.kept image.lost (subst (λ (l : List (List ℕ)). IsIn (image.kept ++ image.lost) l) tails image.is_tail) in
    let e : b ≡ a.safe ++ line = image.whole ∙ ap (λ (l : List ℕ). l ++ image.kept) (ap (λ (x : State). x.safe) same) ∙ ap (λ (l : List ℕ). (a.safe ++ line) ++ l) nothing ∙ append-nil (a.safe ++ line) in
    begun_left line a b line ended is ([], append-nil line) e

pub leaves_kept : (line : List ℕ) (a s : State) → IsEnded a.safe → Each IsTorn a.tails → IsLine line → IsInKeep line a s → LeavesKept line a s
leaves_kept line a s ended torn is at = record { bytes = λ b i. (image_left line a s ended torn is at b i).0; lines = λ b i. (image_left line a s ended torn is at b i).1 }

pub keep_crash : (line : List ℕ) (a c : Log) (j : Journal) → Fits a.state j → IsLine line → Gained (IsInKeep line a.state) a c → Gained (LeavesKept line a.state) a c
keep_crash line a c j fits is gained = gained_map (IsInKeep line a.state) (LeavesKept line a.state) a c (λ s at. leaves_kept line a.state s fits.ended fits.torn is at) gained

-- the journal is that of the log afterwards
keeps_torn : (line : List ℕ) (a s : State) → Each IsTorn a.tails → IsLine line → KeepsSafe line a s → Each IsTorn s.tails
keeps_torn line a s torn is keeps = each_map (λ t. IsIn t a.tails ⊎ IsPrefix t line) IsTorn s.tails (λ t. ⊎_elim (λ i. each_in IsTorn a.tails t torn i) (λ p. (line, is, p))) keeps.tails

pub fits_failed : (line : List ℕ) (a s : State) (j j' : Journal) → Fits a j → IsLine line → KeepsSafe line a s → j'.kept ≡ j.kept → j'.failed ≡ true → Fits s j'
fits_failed line a s j j' fits is keeps same failed = record {
  long = ap length keeps.safe ∙ fits.long ∙ sym same;
  ended = subst IsEnded (sym keeps.safe) fits.ended;
  torn = keeps_torn line a s fits.torn is keeps;
  quiet = λ not_failed. absurd (let e : true ≡ false = sym failed ∙ not_failed in cc);
}

pub fits_done : (line : List ℕ) (a s : State) (j j' : Journal) → Fits a j → IsLine line → s ≡ settled (a.safe ++ line) → j'.kept ≡ j.kept + length line → Fits s j'
fits_done line a s j j' fits is done more = subst (λ (x : State). Fits x j') (sym done) (record {
  long = length-append a.safe line ∙ ap (λ (n : ℕ). n + length line) fits.long ∙ sym more;
  ended = ended_line a.safe line is;
  torn = ((line, is, (line, refl)), tt);
  quiet = λ not_failed. refl;
})
