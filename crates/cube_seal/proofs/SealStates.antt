-- What the calls of a store leave of the log of a seal.
use Rattle.std.proofs.Common.{◌≡◌, inl, inr, ℕ, ◌≤◌, ◌==◌, Bool, true, false, nat_lt, List, [], ◌∷◌, ◌++◌, length, drop, map, refl, sym, ◌∙◌, ap, subst, append_assoc, arith, Result, Ok, Err, OnOk}
use Rattle.std.proofs.lemmas.Bool.Decides.{nat_tests}
use Rattle.std.proofs.lemmas.List.{append-nil}
use Rattle.cube_model.specs.Cubes.{Each, IsIn}
use Rattle.cube_io.specs.declared.faults.Failed.{Failed}
use Rattle.cube_io.specs.States.{State, Log, IsWhole, IsInCut, IsInSync, Gained, Appended, Cut, Synced, settled, appended, shortened, shortened_if, grown, joined, last_of}
use Rattle.cube_io.proofs.Trails.{each_append, each_map, each_in, each_self, gained_then, passed_gained, passed_last, cut_gained, cut_last, sync_gained, sync_last}
use Rattle.cube_journal.specs.Digests.{is_digest}
use Rattle.cube_seal.specs.Seals.{seal_line, seal_in, Agrees, IsSealed, IsSealable, IsEmptied}
use Rattle.cube_seal.proofs.SealBytes.{lines_say_digits, nothing_says_nothing, front_agrees}

-- what is safe, with each tail as a whole, says nothing yet or these digits
abbrev AllAgree : List ℕ → State → Type 0
AllAgree digits s = Each (λ t. Agrees digits (s.safe ++ t)) s.tails

tails_agree : (digits : List ℕ) (s : State) → IsSealable digits s → AllAgree digits s
tails_agree digits s is = each_self (λ t. Agrees digits (s.safe ++ t)) s.tails
    (λ t i. is (s.safe ++ t) (record { kept = t; lost = []; is_tail = subst (λ (l : List ℕ). IsIn l s.tails) (sym (append-nil t)) i; whole = refl }))

images_agree : (digits : List ℕ) (s : State) → AllAgree digits s → IsSealable digits s
images_agree digits s each bytes image =
    front_agrees digits (s.safe ++ (image.kept ++ image.lost)) bytes image.lost (ap (λ (l : List ℕ). l ++ image.lost) image.whole ∙ append_assoc s.safe image.kept image.lost)
    (each_in (λ t. Agrees digits (s.safe ++ t)) s.tails (image.kept ++ image.lost) each image.is_tail)

empty_agrees : (digits : List ℕ) → Agrees digits []
empty_agrees digits = inl nothing_says_nothing

line_agrees : (digits : List ℕ) → is_digest digits ≡ true → Agrees digits (seal_line digits)
line_agrees digits lower = inr (lines_say_digits digits lower)

no_bytes : (bytes : List ℕ) → nat_lt 0 (length bytes) ≡ false → bytes ≡ []
no_bytes [] e = refl
no_bytes (b ∷ bytes) e = absurd (let few : length (b ∷ bytes) ≤ 0 = grind (arith, nat_tests) in omega (arith, few))

pub is_none : (bytes : List ℕ) → (length bytes == 0) ≡ true → bytes ≡ []
is_none [] e = refl
is_none (b ∷ bytes) e = absurd (let few : length (b ∷ bytes) ≡ 0 = grind (arith, nat_tests) in omega (arith, few))

-- ---- a cut to nothing

each_mapped : {A B : Type 0} (P : B → Type 0) (f : A → B) (xs : List A) → Each (λ x. P (f x)) xs → Each P (map f xs)
each_mapped P f [] each = tt
each_mapped P f (x ∷ xs) each = (each.0, each_mapped P f xs each.1)

cut_agrees_if : (t : Bool) (digits : List ℕ) (s : State) → nat_lt 0 (length s.safe) ≡ t → AllAgree digits s → AllAgree digits (shortened_if t s 0)
cut_agrees_if true digits s is each =
    each_append (Agrees digits) (map (λ (tail : List ℕ). s.safe ++ tail) s.tails) ([] ∷ []) (each_mapped (Agrees digits) (λ (tail : List ℕ). s.safe ++ tail) s.tails each) (empty_agrees digits, tt)
cut_agrees_if false digits s is each =
    each_append (λ t. Agrees digits (s.safe ++ t)) s.tails (drop (length s.safe) [] ∷ []) each
    (subst (λ (l : List ℕ). Agrees digits (l ++ drop (length l) [])) (sym (no_bytes s.safe is)) (empty_agrees digits), tt)

cut_agrees : (digits : List ℕ) (s x : State) → AllAgree digits s → IsInCut s 0 x → AllAgree digits x
cut_agrees digits s x each (inl e) = subst (AllAgree digits) (sym e) each
cut_agrees digits s x each (inr (inl e)) = subst (AllAgree digits) (sym e) (cut_agrees_if _ digits s refl each)
cut_agrees digits s x each (inr (inr e)) = subst (AllAgree digits) (sym e) (cut_agrees_if _ digits s refl each)

cut_sealable : (digits : List ℕ) (s : State) → IsSealable digits s → (x : State) → IsInCut s 0 x → IsSealable digits x
cut_sealable digits s is x i = images_agree digits x (cut_agrees digits s x (tails_agree digits s is) i)

pub cut_crash : (digits : List ℕ) (a b : Log) → Cut 0 a b → IsSealable digits a.state → Gained (IsSealable digits) a b
cut_crash digits a b cut is = cut_gained (IsSealable digits) 0 a b cut (cut_sealable digits a.state is)

pub cut_leaves : (digits : List ℕ) (a b : Log) → Cut 0 a b → IsSealable digits a.state → IsSealable digits b.state
cut_leaves digits a b cut is = cut_last (IsSealable digits) 0 a b cut (cut_sealable digits a.state is)

emptied_if : (t : Bool) (s : State) → nat_lt 0 (length s.safe) ≡ t → IsEmptied (shortened_if t s 0)
emptied_if true s is = (refl, refl)
emptied_if false s is = (refl, no_bytes s.safe is)

pub cut_done : (r : Result (Unit {0}) Failed) (a b : Log) → OnOk r (b.state ≡ shortened a.state 0) → OnOk r (IsEmptied b.state)
cut_done (Ok u) a b e = subst IsEmptied (sym e) (emptied_if _ a.state refl)
cut_done (Err f) a b e = tt

-- a log of which a read gives nothing
none_safe : (safe tail : List ℕ) → safe ++ tail ≡ [] → safe ≡ []
none_safe [] tail e = refl
none_safe (b ∷ safe) tail e = absurd (cc)

pub whole_emptied : (s : State) → IsWhole s → s.now ≡ [] → IsEmptied s
whole_emptied s whole none = (none, none_safe s.safe whole.0 (whole.2 ∙ none))

-- ---- the line, part by part

grown_agrees : (digits : List ℕ) (s : State) (unsaid : List ℕ) (parts : List (List ℕ)) → is_digest digits ≡ true → s.safe ≡ [] → AllAgree digits s → s.now ++ (joined parts ++ unsaid) ≡ seal_line digits → Each (AllAgree digits) (grown s parts)
grown_agrees digits s unsaid [] lower none each split = tt
grown_agrees digits s unsaid (p ∷ ps) lower none each split =
    let split' : (s.now ++ p) ++ (joined ps ++ unsaid) ≡ seal_line digits = append_assoc s.now p (joined ps ++ unsaid) ∙ ap (λ (l : List ℕ). s.now ++ l) (sym (append_assoc p (joined ps) unsaid)) ∙ split in
    let front : Agrees digits (s.now ++ p) = front_agrees digits (seal_line digits) (s.now ++ p) (joined ps ++ unsaid) split' (line_agrees digits lower) in
    let tail : Agrees digits (s.safe ++ drop (length s.safe) (s.now ++ p)) = subst (λ (l : List ℕ). Agrees digits (l ++ drop (length l) (s.now ++ p))) (sym none) front in
    let one : AllAgree digits (appended s p) = each_append (λ t. Agrees digits (s.safe ++ t)) s.tails (drop (length s.safe) (s.now ++ p) ∷ []) each (tail, tt) in
    (one, grown_agrees digits (appended s p) unsaid ps lower none one split')

put_each : (digits : List ℕ) (a b : Log) (unsaid : List ℕ) → is_digest digits ≡ true → IsEmptied a.state → (did : Appended (seal_line digits) unsaid a b) → IsSealable digits a.state → Each (IsSealable digits) (grown a.state did.parts)
put_each digits a b unsaid lower empty did is =
    each_map (AllAgree digits) (IsSealable digits) (grown a.state did.parts) (images_agree digits)
    (grown_agrees digits a.state unsaid did.parts lower empty.1 (tails_agree digits a.state is) (ap (λ (l : List ℕ). l ++ (joined did.parts ++ unsaid)) empty.0 ∙ sym did.split))

pub put_crash : (digits : List ℕ) (a b : Log) (unsaid : List ℕ) → is_digest digits ≡ true → IsEmptied a.state → Appended (seal_line digits) unsaid a b → IsSealable digits a.state → Gained (IsSealable digits) a b
put_crash digits a b unsaid lower empty did is = passed_gained (IsSealable digits) a b _ did.passed (put_each digits a b unsaid lower empty did is)

pub put_leaves : (digits : List ℕ) (a b : Log) (unsaid : List ℕ) → is_digest digits ≡ true → IsEmptied a.state → Appended (seal_line digits) unsaid a b → IsSealable digits a.state → IsSealable digits b.state
put_leaves digits a b unsaid lower empty did is = passed_last (IsSealable digits) a b _ did.passed is (put_each digits a b unsaid lower empty did is)

grown_now : (s : State) (parts : List (List ℕ)) → (last_of s (grown s parts)).now ≡ s.now ++ joined parts
grown_now s [] = sym (append-nil s.now)
grown_now s (p ∷ ps) = grown_now (appended s p) ps ∙ append_assoc s.now p (joined ps)

pub put_done : (r : Result (Unit {0}) Failed) (digits : List ℕ) (a b : Log) (unsaid : List ℕ) → IsEmptied a.state → Appended (seal_line digits) unsaid a b → OnOk r (unsaid ≡ []) → OnOk r (b.state.now ≡ seal_line digits)
put_done (Ok u) digits a b unsaid empty did none =
    ap (λ (x : State). x.now) did.passed.state ∙ grown_now a.state did.parts ∙ ap (λ (l : List ℕ). l ++ joined did.parts) empty.0
    ∙ sym (did.split ∙ ap (λ (l : List ℕ). joined did.parts ++ l) none ∙ append-nil (joined did.parts))
put_done (Err f) digits a b unsaid empty did none = tt

-- ---- a sync of the line

settled_agrees : (digits bytes : List ℕ) → Agrees digits bytes → AllAgree digits (settled bytes)
settled_agrees digits bytes is = (subst (Agrees digits) (sym (append-nil bytes)) is, tt)

sync_sealable : (digits : List ℕ) (s : State) → is_digest digits ≡ true → s.now ≡ seal_line digits → IsSealable digits s → (x : State) → IsInSync s x → IsSealable digits x
sync_sealable digits s lower now is x (inl e) = subst (IsSealable digits) (sym e) is
sync_sealable digits s lower now is x (inr e) = subst (IsSealable digits) (sym (e ∙ ap settled now)) (images_agree digits (settled (seal_line digits)) (settled_agrees digits (seal_line digits) (line_agrees digits lower)))

sync_crash : (digits : List ℕ) (a b : Log) → is_digest digits ≡ true → a.state.now ≡ seal_line digits → Synced a b → IsSealable digits a.state → Gained (IsSealable digits) a b
sync_crash digits a b lower now sync is = sync_gained (IsSealable digits) a b sync (sync_sealable digits a.state lower now is)

sync_leaves : (digits : List ℕ) (a b : Log) → is_digest digits ≡ true → a.state.now ≡ seal_line digits → Synced a b → IsSealable digits a.state → IsSealable digits b.state
sync_leaves digits a b lower now sync is = sync_last (IsSealable digits) a b sync (sync_sealable digits a.state lower now is)

nothing_kept : (kept lost : List ℕ) → IsIn (kept ++ lost) ([] ∷ []) → kept ≡ []
nothing_kept [] lost i = refl
nothing_kept (x ∷ kept) lost (inl e) = cc
nothing_kept (x ∷ kept) lost (inr i) = absurd i

settled_sealed : (digits : List ℕ) → is_digest digits ≡ true → IsSealed digits (settled (seal_line digits))
settled_sealed digits lower bytes image =
    let e : bytes ≡ seal_line digits = image.whole ∙ ap (λ (l : List ℕ). seal_line digits ++ l) (nothing_kept image.kept image.lost image.is_tail) ∙ append-nil (seal_line digits) in
    ap seal_in e ∙ lines_say_digits digits lower

pub sync_done : (digits : List ℕ) (a b : Log) → is_digest digits ≡ true → a.state.now ≡ seal_line digits → b.state ≡ settled a.state.now → IsSealed digits b.state
sync_done digits a b lower now done = subst (IsSealed digits) (sym (done ∙ ap settled now)) (settled_sealed digits lower)

-- ---- the whole call: a read that changes nothing, a comparison and a sync

read_sealable : (digits : List ℕ) (a b : Log) → b ≡ a → IsSealable digits a.state → IsSealable digits b.state
read_sealable digits a b same is = subst (λ (l : Log). IsSealable digits l.state) (sym same) is

pub held_crash : (digits : List ℕ) (a b c d : Log) → is_digest digits ≡ true → b ≡ a → (IsSealable digits b.state → Gained (IsSealable digits) b c) → (IsSealable digits b.state → IsSealable digits c.state) → c.state.now ≡ seal_line digits → Synced c d → IsSealable digits a.state → Gained (IsSealable digits) a d
held_crash digits a b c d lower same crash leaves now sync is =
    let here = read_sealable digits a b same is in
    subst (λ (l : Log). Gained (IsSealable digits) l d) same (gained_then (IsSealable digits) b c d (crash here) (sync_crash digits c d lower now sync (leaves here)))

pub held_leaves : (digits : List ℕ) (a b c d : Log) → is_digest digits ≡ true → b ≡ a → (IsSealable digits b.state → IsSealable digits c.state) → c.state.now ≡ seal_line digits → Synced c d → IsSealable digits a.state → IsSealable digits d.state
held_leaves digits a b c d lower same leaves now sync is = sync_leaves digits c d lower now sync (leaves (read_sealable digits a b same is))
