-- What the steps of a recovery leave.
use Rattle.std.proofs.Common.{◌≡◌, ◌≢◌, ◌⊎◌, inl, inr, ⊎_elim, ℕ, suc, zero, ◌+◌, ◌<◌, ◌≤◌, ◌==◌, Bool, true, false, nat_lt, List, [], ◌∷◌, ◌++◌, length, take, drop, get_or, refl, sym, ◌∙◌, ap, subst, arith, append_assoc, length-take, take-append-drop, Result, Ok, Err, OnOk, nat_eq, if◌then◌else◌}
use Rattle.std.specs.List.{starts_with, flat_map}
use Rattle.std.proofs.lemmas.Bool.Decides.{nat_tests}
use Rattle.std.proofs.lemmas.Slice.Eq.{bytes_eq-Decides}
use Rattle.std.proofs.lemmas.List.{append-nil, take_at, drop_all, take_all, take_more}
use Rattle.cube_io.specs.declared.faults.Failed.{Failed}
use Rattle.cube_model.specs.Cubes.{IsIn}
use Rattle.cube_io.specs.States.{State, Log, IsImage, IsInCut, IsInSync, Gained, Cut, Synced, settled, shortened, shortened_if}
use Rattle.cube_io.proofs.Trails.{each_append, each_in, gained_then, gained_map, cut_gained, sync_gained}
use Rattle.cube_journal.specs.Lines.{onto, IsLine, IsInLine, IsEnded, IsPrefix, ended_lines}
use Rattle.cube_journal.specs.Keeping.{Journal, Fits, IsInKeep, IsCutShort, KeepsLines, IsBegun, Restores, IsInRecovery}
use Rattle.cube_journal.proofs.LineFacts.{lines_split, some_line, ended_line, ended_push, is_no_feed}
use Rattle.cube_journal.specs.Recovery.{kept_from, kept_of}

nothing_kept : (kept lost : List ℕ) → IsIn (kept ++ lost) ([] ∷ []) → kept ≡ []
nothing_kept [] lost i = refl
nothing_kept (x ∷ kept) lost (inl e) = cc
nothing_kept (x ∷ kept) lost (inr i) = absurd i

-- a crash leaves all that is settled
pub image_settled : (bytes b : List ℕ) → IsImage (settled bytes) b → b ≡ bytes
image_settled bytes b image = image.whole ∙ ap (λ (l : List ℕ). bytes ++ l) (nothing_kept image.kept image.lost image.is_tail) ∙ append-nil bytes

-- the images of a cut of what is settled
whole_short : (len : ℕ) (bytes : List ℕ) → IsCutShort len bytes bytes
whole_short len bytes = (drop len bytes, ([], append-nil (drop len bytes)), sym (take-append-drop len bytes))

front_short : (len : ℕ) (bytes : List ℕ) → IsCutShort len bytes (take len bytes)
front_short len bytes = ([], (drop len bytes, refl), sym (append-nil (take len bytes)))

-- kept and lost of the one tail that a cut leaves, or of the empty one
two_tails : (x kept lost : List ℕ) → IsIn (kept ++ lost) (x ∷ [] ∷ []) → IsPrefix kept x
two_tails x kept lost (inl e) = (lost, sym e)
two_tails x kept lost (inr i) = let none : kept ≡ [] = nothing_kept kept lost i in subst (λ (l : List ℕ). IsPrefix l x) (sym none) (x, refl)

below_short : (len : ℕ) (bytes b : List ℕ) (s : State) → s.safe ≡ take len bytes → s.tails ≡ (drop len bytes ++ []) ∷ [] ∷ [] → IsImage s b → IsCutShort len bytes b
below_short len bytes b s safe tails image =
    let prefix : IsPrefix image.kept (drop len bytes ++ []) = two_tails (drop len bytes ++ []) image.kept image.lost (subst (λ (l : List (List ℕ)). IsIn (image.kept ++ image.lost) l) tails image.is_tail) in
    (image.kept, (prefix.0, prefix.1 ∙ append-nil (drop len bytes)), image.whole ∙ ap (λ (l : List ℕ). l ++ image.kept) safe)

-- a cut at the very end
two_empty : (x kept lost : List ℕ) → x ≡ [] → IsIn (kept ++ lost) ([] ∷ x ∷ []) → kept ≡ []
two_empty x [] lost e i = refl
two_empty x (k ∷ kept) lost e (inl f) = cc
two_empty x (k ∷ kept) lost e (inr (inl f)) = let g : [] ≡ k ∷ kept ++ lost = sym e ∙ f in cc
two_empty x (k ∷ kept) lost e (inr (inr i)) = absurd i

end_short : (len : ℕ) (bytes b x : List ℕ) (s : State) → s.safe ≡ bytes → x ≡ [] → s.tails ≡ [] ∷ x ∷ [] → IsImage s b → IsCutShort len bytes b
end_short len bytes b x s safe none tails image =
    let nothing : image.kept ≡ [] = two_empty x image.kept image.lost none (subst (λ (l : List (List ℕ)). IsIn (image.kept ++ image.lost) l) tails image.is_tail) in
    let e : b ≡ bytes = image.whole ∙ ap (λ (l : List ℕ). l ++ image.kept) safe ∙ ap (λ (l : List ℕ). bytes ++ l) nothing ∙ append-nil bytes in
    subst (IsCutShort len bytes) (sym e) (whole_short len bytes)

at_end : (len : ℕ) (bytes : List ℕ) → length bytes ≤ len → drop (length bytes) (take len bytes) ≡ []
at_end len bytes le = ap (λ (l : List ℕ). drop (length bytes) l) (take_all len bytes le) ∙ drop_all (length bytes) bytes (omega arith)

cut_short_if : (t : Bool) (len : ℕ) (bytes : List ℕ) (s : State) (b : List ℕ) → nat_lt len (length bytes) ≡ t → s.safe ≡ (shortened_if t (settled bytes) len).safe → s.tails ≡ (shortened_if t (settled bytes) len).tails → IsImage s b → IsCutShort len bytes b
cut_short_if true len bytes s b is safe tails image = below_short len bytes b s safe tails image
cut_short_if false len bytes s b is safe tails image = let above : length bytes ≤ len = grind (arith, nat_tests) in end_short len bytes b (drop (length bytes) (take len bytes)) s safe (at_end len bytes above) tails image

pub cut_short : (len : ℕ) (bytes : List ℕ) (s : State) → IsInCut (settled bytes) len s → (b : List ℕ) → IsImage s b → IsCutShort len bytes b
cut_short len bytes s (inl e) b image = let f : b ≡ bytes = image_settled bytes b (subst (λ (x : State). IsImage x b) e image) in subst (IsCutShort len bytes) (sym f) (whole_short len bytes)
cut_short len bytes s (inr (inl e)) b image = cut_short_if _ len bytes s b refl (ap (λ (x : State). x.safe) e) (ap (λ (x : State). x.tails) e) image
cut_short len bytes s (inr (inr e)) b image = cut_short_if _ len bytes s b refl (ap (λ (x : State). x.safe) e) (ap (λ (x : State). x.tails) e) image

abbrev Short : ℕ → List ℕ → State → Type 0
Short len bytes s = (b : List ℕ) → IsImage s b → IsCutShort len bytes b

now_if : (t : Bool) (len : ℕ) (s : State) → (shortened_if t s len).now ≡ take len s.now
now_if true len s = refl
now_if false len s = refl

trim_cut : (a b : Log) (len : ℕ) → a.state ≡ settled a.state.now → Cut len a b → Gained (Short len a.state.now) a b
trim_cut a b len is cut = cut_gained (Short len a.state.now) len a b cut (λ s i. cut_short len a.state.now s (subst (λ (x : State). IsInCut x len s) is i))

pub trim_stops : (a b : Log) (len : ℕ) → a.state ≡ settled a.state.now → Cut len a b → Gained (Short len a.state.now) a b
trim_stops a b len is cut = trim_cut a b len is cut

pub trim_goes : (a b c : Log) (len : ℕ) → a.state ≡ settled a.state.now → Cut len a b → b.state ≡ shortened a.state len → Synced b c → Gained (Short len a.state.now) a c
trim_goes a b c len is cut done sync =
    let now : b.state.now ≡ take len a.state.now = ap (λ (x : State). x.now) done ∙ now_if _ len a.state in
    let same : b.state ≡ shortened (settled a.state.now) len = done ∙ ap (λ (x : State). shortened x len) is in
    gained_then (Short len a.state.now) a b c (trim_cut a b len is cut)
    (sync_gained (Short len a.state.now) b c sync (λ s. ⊎_elim
    (λ e. cut_short len a.state.now s (inr (inr (e ∙ same))))
    (λ e bytes image. let f : bytes ≡ take len a.state.now = image_settled (take len a.state.now) bytes (subst (λ (x : State). IsImage x bytes) (e ∙ ap settled now) image) in subst (IsCutShort len a.state.now) (sym f) (front_short len a.state.now))))

pub trim_done : (r : Result (Unit {0}) Failed) (a b c : Log) (len : ℕ) → b.state ≡ shortened a.state len → OnOk r (c.state ≡ settled b.state.now) → OnOk r (c.state ≡ settled (take len a.state.now))
trim_done (Ok u) a b c len done e = e ∙ ap settled (ap (λ (x : State). x.now) done ∙ now_if _ len a.state)
trim_done (Err f) a b c len done e = tt

-- how far the ended lines go
drop_push : (n : ℕ) (xs : List ℕ) (x : ℕ) → n ≤ length xs → drop n (xs ++ x ∷ []) ≡ drop n xs ++ x ∷ []
drop_push zero xs x le = refl
drop_push (suc n) [] x le = absurd (omega arith)
drop_push (suc n) (y ∷ xs) x le = drop_push n xs x (omega arith)

pub ended_here : (bytes : List ℕ) (i : ℕ) → i < length bytes → get_or bytes i 0 ≡ 10 → IsEnded (take (i + 1) bytes) × IsInLine (drop (i + 1) (take (i + 1) bytes))
ended_here bytes i lt is = (subst IsEnded (sym (take_more bytes i 0 lt ∙ ap (λ (b : ℕ). take i bytes ++ b ∷ []) is)) (ended_push (take i bytes)), subst IsInLine (sym (drop_all (i + 1) (take (i + 1) bytes) (omega (arith, length-take (i + 1) bytes)))) tt)

pub not_here : (bytes : List ℕ) (i end : ℕ) → i < length bytes → end ≤ i → get_or bytes i 0 ≢ 10 → IsInLine (drop end (take i bytes)) → IsInLine (drop end (take (i + 1) bytes))
not_here bytes i end lt le not rest =
    let e : drop end (take (i + 1) bytes) ≡ drop end (take i bytes) ++ get_or bytes i 0 ∷ [] = ap (λ (l : List ℕ). drop end l) (take_more bytes i 0 lt) ∙ drop_push end (take i bytes) (get_or bytes i 0) (omega (arith, length-take i bytes)) in
    subst IsInLine (sym e) (each_append (λ b. b ≢ 10) (drop end (take i bytes)) (get_or bytes i 0 ∷ []) rest (not, tt))

-- lines of a log
in_line_none : (p : List ℕ) → IsInLine p → ended_lines p ≡ []
in_line_none [] clean = refl
in_line_none (b ∷ p) clean = let f : (b == 10) ≡ false = is_no_feed b clean.0 in rw f (ap (onto b) (in_line_none p clean.1))

in_line_front : (p q : List ℕ) → IsInLine (p ++ q) → IsInLine p
in_line_front [] q clean = tt
in_line_front (b ∷ p) q clean = (clean.0, in_line_front p q clean.1)

pub starts_true : (xs p rest : List ℕ) → p ++ rest ≡ xs → starts_with nat_eq xs p ≡ true
starts_true xs p rest e = (bytes_eq-Decides p (take (length p) xs)).1 (sym (ap (λ (l : List ℕ). take (length p) l) (sym e) ∙ take_at p rest (length p) refl))

pub starts_front : (xs p : List ℕ) → starts_with nat_eq xs p ≡ true → p ++ drop (length p) xs ≡ xs
starts_front xs p t = ap (λ (l : List ℕ). l ++ drop (length p) xs) ((bytes_eq-Decides p (take (length p) xs)).0 t) ∙ take-append-drop (length p) xs

short_lines : (len : ℕ) (x b : List ℕ) → IsEnded (take len x) → IsInLine (drop len x) → IsCutShort len x b → ended_lines b ≡ ended_lines x
short_lines len x b ended rest short =
    let one : (p : List ℕ) → IsInLine p → ended_lines (take len x ++ p) ≡ ended_lines (take len x) = λ p clean. lines_split (take len x) p ended ∙ ap (λ (ls : List (List ℕ)). ended_lines (take len x) ++ ls) (in_line_none p clean) ∙ append-nil (ended_lines (take len x)) in
    ap ended_lines short.2 ∙ one short.0 (in_line_front short.0 short.1.0 (subst IsInLine (sym short.1.1) rest)) ∙ sym (one (drop len x) rest) ∙ ap ended_lines (take-append-drop len x)

-- the states of a first line that is being written
head_images : (head : List ℕ) (old s : State) → old ≡ settled [] → IsInKeep head old s → (b : List ℕ) → IsImage s b → IsPrefix b head
head_images head old s empty (inl keeps) b image =
    let e : b ≡ image.kept = image.whole ∙ ap (λ (l : List ℕ). l ++ image.kept) (keeps.safe ∙ ap (λ (x : State). x.safe) empty) in
    let tails : old.tails ≡ [] ∷ [] = ap (λ (x : State). x.tails) empty in
    subst (λ (l : List ℕ). IsPrefix l head) (sym e) (⊎_elim
    (λ i. let none : image.kept ≡ [] = nothing_kept image.kept image.lost (subst (λ (l : List (List ℕ)). IsIn (image.kept ++ image.lost) l) tails i) in subst (λ (l : List ℕ). IsPrefix l head) (sym none) (head, refl))
    (λ p. (image.lost ++ p.0, sym (append_assoc image.kept image.lost p.0) ∙ p.1))
    (each_in (λ t. IsIn t old.tails ⊎ IsPrefix t head) s.tails (image.kept ++ image.lost) keeps.tails image.is_tail))
head_images head old s empty (inr done) b image =
    let e : b ≡ head = image_settled head b (subst (λ (x : State). IsImage x b) (done ∙ ap (λ (x : State). settled (x.safe ++ head)) empty) image) in
    subst (λ (l : List ℕ). IsPrefix l head) (sym e) ([], append-nil head)

pub put_head : (head : List ℕ) (a b : Log) → a.state ≡ settled [] → Gained (IsInKeep head a.state) a b → Gained (IsBegun head) a b
put_head head a b empty gained = gained_map (IsInKeep head a.state) (IsBegun head) a b (λ s i. head_images head a.state s empty i) gained

-- a cut to nothing of the beginning of the first line
pub cut_head : (head x : List ℕ) (a b : Log) → starts_with nat_eq head x ≡ true → a.state.now ≡ x → Gained (Short 0 a.state.now) a b → Gained (IsBegun head) a b
cut_head head x a b starts now gained =
    let front : x ++ drop (length x) head ≡ head = starts_front head x starts in
    let prefix : (p : List ℕ) → IsCutShort 0 a.state.now p → IsPrefix p head = λ p short. (short.1.0 ++ drop (length x) head, ap (λ (l : List ℕ). l ++ (short.1.0 ++ drop (length x) head)) short.2 ∙ sym (append_assoc short.0 short.1.0 (drop (length x) head)) ∙ ap (λ (l : List ℕ). l ++ drop (length x) head) (short.1.1 ∙ now) ∙ front) in
    gained_map (Short 0 a.state.now) (IsBegun head) a b (λ s short p image. prefix p (short p image)) gained

-- a cut behind the ended lines
pub trim_lines : (len : ℕ) (x : List ℕ) (a b : Log) → IsEnded (take len x) → IsInLine (drop len x) → a.state.now ≡ x → Gained (Short len a.state.now) a b → Gained (KeepsLines x) a b
trim_lines len x a b ended rest now gained = gained_map (Short len a.state.now) (KeepsLines x) a b (λ s short p image. short_lines len x p ended rest (subst (λ (l : List ℕ). IsCutShort len l p) now (short p image))) gained

-- ---- which of the two repairs

pub no_lines : (bytes : List ℕ) (end : ℕ) → end ≡ 0 → IsInLine (drop end bytes) → ended_lines bytes ≡ []
no_lines bytes end none rest = in_line_none bytes (subst (λ (n : ℕ). IsInLine (drop n bytes)) none rest)

append_some : (xs ys : List (List ℕ)) → (xs ≡ [] → ⊥) → xs ++ ys ≡ [] → ⊥
append_some [] ys some e = some refl
append_some (x ∷ xs) ys some e = cc

pub some_lines : (bytes : List ℕ) (end : ℕ) → 0 < end → end ≤ length bytes → IsEnded (take end bytes) → ended_lines bytes ≡ [] → ⊥
some_lines bytes zero some le ended none = absurd (omega arith)
some_lines [] (suc end) some le ended none = absurd (omega arith)
some_lines (b ∷ bytes) (suc end) some le ended none =
    append_some (ended_lines (take (suc end) (b ∷ bytes))) (ended_lines (drop (suc end) (b ∷ bytes))) (some_line b (take end bytes) ended)
    (sym (lines_split (take (suc end) (b ∷ bytes)) (drop (suc end) (b ∷ bytes)) ended) ∙ ap ended_lines (take-append-drop (suc end) (b ∷ bytes)) ∙ none)

pub restores_begun : (head bytes : List ℕ) (a b : Log) → ended_lines bytes ≡ [] → Gained (IsBegun head) a b → Gained (Restores head bytes) a b
restores_begun head bytes a b none gained = gained_map (IsBegun head) (Restores head bytes) a b (λ s f. inl (none, f)) gained

pub restores_kept : (head bytes : List ℕ) (a b : Log) → (ended_lines bytes ≡ [] → ⊥) → Gained (KeepsLines bytes) a b → Gained (Restores head bytes) a b
restores_kept head bytes a b some gained = gained_map (KeepsLines bytes) (Restores head bytes) a b (λ s f. inr (some, f)) gained

-- the bytes that are kept
joined_step : (t : Bool) (b : ℕ) (bs : List ℕ) (ls : List (List ℕ)) → (b == 10) ≡ t → (ls ≡ [] → ⊥) → flat_map (λ text. text ++ 10 ∷ []) ls ≡ bs → flat_map (λ text. text ++ 10 ∷ []) (if t then [] ∷ ls else onto b ls) ≡ b ∷ bs
joined_step true b bs ls is some e = let f : b ≡ 10 = grind (arith, nat_tests) in ap (λ (l : List ℕ). 10 ∷ l) e ∙ ap (λ (n : ℕ). n ∷ bs) (sym f)
joined_step false b bs [] is some e = absurd (some refl)
joined_step false b bs (l ∷ ls) is some e = ap (λ (l : List ℕ). b ∷ l) e

joined_lines : (xs : List ℕ) → IsEnded xs → flat_map (λ text. text ++ 10 ∷ []) (ended_lines xs) ≡ xs
joined_lines [] ended = refl
joined_lines (b ∷ []) ended = let t : (b == 10) ≡ true = grind (arith, nat_tests, ended) in rw t (ap (λ (n : ℕ). n ∷ []) (sym ended))
joined_lines (b ∷ c ∷ bs) ended = joined_step (b == 10) b (c ∷ bs) (ended_lines (c ∷ bs)) refl (some_line c bs ended) (joined_lines (c ∷ bs) ended)

kept_some : (head : List ℕ) (ls : List (List ℕ)) → (ls ≡ [] → ⊥) → kept_from head ls ≡ flat_map (λ text. text ++ 10 ∷ []) ls
kept_some head [] some = absurd (some refl)
kept_some head (l ∷ ls) some = refl

pub kept_ended : (head bytes : List ℕ) (end : ℕ) → 0 < end → end ≤ length bytes → IsEnded (take end bytes) → IsInLine (drop end bytes) → kept_of head bytes ≡ take end bytes
kept_ended head bytes end some le ended rest =
    kept_some head (ended_lines bytes) (some_lines bytes end some le ended) ∙ ap (flat_map (λ text. text ++ 10 ∷ [])) (sym (short_lines end bytes (take end bytes) ended rest (front_short end bytes))) ∙ joined_lines (take end bytes) ended

pub kept_begun : (head bytes : List ℕ) → ended_lines bytes ≡ [] → kept_of head bytes ≡ head
kept_begun head bytes none = ap (kept_from head) none

pub front_length : (end : ℕ) (bytes : List ℕ) → end ≤ length bytes → end ≡ length (take end bytes)
front_length end bytes le = let e = length-take end bytes in omega (arith, e, le)

-- the kept bytes end with a line feed
ended_behind : (xs ys : List ℕ) → (ys ≡ [] → ⊥) → IsEnded ys → IsEnded (xs ++ ys)
ended_behind [] ys some ended = ended
ended_behind (x ∷ []) [] some ended = absurd (some refl)
ended_behind (x ∷ []) (y ∷ ys) some ended = ended
ended_behind (x ∷ z ∷ xs) ys some ended = ended_behind (z ∷ xs) ys some ended

no_empty : (xs : List ℕ) (b : ℕ) (ys : List ℕ) → xs ++ b ∷ ys ≡ [] → ⊥
no_empty [] b ys e = cc
no_empty (x ∷ xs) b ys e = cc

lines_ended : (l : List ℕ) (ls : List (List ℕ)) → IsEnded (flat_map (λ text. text ++ 10 ∷ []) (l ∷ ls))
lines_ended l [] = subst IsEnded (sym (append-nil (l ++ 10 ∷ []))) (ended_push l)
lines_ended l (m ∷ ls) = ended_behind (l ++ 10 ∷ []) (flat_map (λ text. text ++ 10 ∷ []) (m ∷ ls))
    (λ none. no_empty m 10 (flat_map (λ text. text ++ 10 ∷ []) ls) (sym (append_assoc m (10 ∷ []) (flat_map (λ text. text ++ 10 ∷ []) ls)) ∙ none)) (lines_ended m ls)

kept_from_ended : (head : List ℕ) (ls : List (List ℕ)) → IsLine head → IsEnded (kept_from head ls)
kept_from_ended head [] is = ended_line [] head is
kept_from_ended head (l ∷ ls) is = lines_ended l ls

pub fits_opened : (head bytes : List ℕ) (s : State) (j : Journal) (log kept : ℕ) → IsLine head → s ≡ settled (kept_of head bytes) → kept ≡ length (kept_of head bytes) → j ≡ record { log = log; kept = kept; failed = false } → Fits s j
fits_opened head bytes s j log kept is same long made = subst (λ (x : State). Fits x j) (sym same) (subst (λ (x : Journal). Fits (settled (kept_of head bytes)) x) (sym made)
    (record { long = sym long; ended = kept_from_ended head (ended_lines bytes) is; torn = ((head, is, (head, refl)), tt); quiet = λ not_failed. refl }))

-- ---- what is recovered

pub opened_look : {X : Type 0} (R : List ℕ → X) (a b : Log) → Gained (IsInSync a.state) a b → Gained (IsInRecovery R a.state) a b
opened_look R a b gained = gained_map (IsInSync a.state) (IsInRecovery R a.state) a b (λ s. ⊎_elim (λ same. inl same)
    (λ done. inr (λ bytes image. ap R (image_settled a.state.now bytes (subst (λ (x : State). IsImage x bytes) done image))))) gained

-- each image of a repair recovers the same
pub opened_then : {X : Type 0} (R : List ℕ → X) (head x : List ℕ) (a b c : Log) → x ≡ a.state.now → ((s : State) → Restores head x s → (p : List ℕ) → IsImage s p → R p ≡ R x) → Gained (IsInSync a.state) a b → Gained (Restores head x) b c → Gained (IsInRecovery R a.state) a c
opened_then R head x a b c is f first second = gained_then (IsInRecovery R a.state) a b c (opened_look R a b first)
    (gained_map (Restores head x) (IsInRecovery R a.state) b c (λ s r. inr (λ bytes image. f s r bytes image ∙ ap R is)) second)
