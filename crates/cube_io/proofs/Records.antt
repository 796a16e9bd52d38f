-- What one call more in the record makes of the logs.
use Rattle.std.proofs.Common.{◌≡◌, ◌≢◌, inl, inr, ℕ, ◌+◌, ◌<◌, ◌==◌, Bool, true, false, List, [], ◌∷◌, ◌++◌, length, take, drop, refl, sym, ◌∙◌, ap, subst, arith, take-append-drop, get_or, map, ◌≤◌, length-append, if◌then◌else◌, Result, Ok, Err, OnOk, OnErr, IsErr}
use Rattle.std.specs.Bool.{⊤, IsTrue}
use Rattle.std.proofs.lemmas.Bool.Decides.{nat_tests}
use Rattle.std.proofs.lemmas.List.{append-nil, take_more, map-append, drop_at, take_all, take-append-le, drop-append-le, length-drop}
use Rattle.cube_io.proofs.Trails.{each_append, each_map}
use Rattle.cube_model.specs.Cubes.{Each}
use Rattle.cube_io.specs.declared.record.Change.{Change}
use Rattle.cube_io.specs.declared.record.Change.TheVariants.{Nothing, Cut, HalfCut, Sync}
use Rattle.cube_io.specs.declared.record.Target.{Target}
use Rattle.cube_io.specs.declared.record.Target.TheVariants.{Names, End}
use Rattle.cube_io.specs.declared.record.Call.{Call}
use Rattle.cube_io.specs.declared.record.Call.TheVariants as call
use Rattle.cube_io.specs.declared.record.Full.{Full}
use Rattle.cube_io.specs.declared.faults.Failed.{Failed}
use Rattle.cube_io.specs.States as states
use Rattle.cube_io.specs.States.{Log, State, Passed, Appended, Synced, settled, appended, shortened, shortened_if, half_cut, grown, joined}
use Rattle.cube_io.specs.Mem.{Deed, deed, part, IsWithin, log_after, fresh, stepped, moved, moved_if, now_after, names_in, store_of, HasTried, IsCutChange}
use Rattle.cube_io.specs.Mem.Deed.{Did, Wrote}
use Rattle.cube_io.specs.Told.{AsksFor, Works}

-- one call more
pub after_push : (k : ℕ) (l : Log) (calls : List Deed) (call : Deed) → log_after k l (calls ++ call ∷ []) ≡ stepped k (log_after k l calls) call
after_push k l [] call = refl
after_push k l (c ∷ calls) call = after_push k (stepped k l c) calls call

-- the call is on no other log
abbrev pub IsOn : ℕ → Deed → Type 0
IsOn log (Did Nothing) = ⊤
IsOn log (Did (Cut at len)) = at ≡ log
IsOn log (Did (HalfCut at len)) = at ≡ log
IsOn log (Did (Sync at)) = at ≡ log
IsOn log (Wrote Names name) = ⊤
IsOn log (Wrote (End at) piece) = at ≡ log

not_moved : (k log at : ℕ) (l : Log) (s : State) → at ≡ log → k ≢ log → moved_if (at == k) l s ≡ l
not_moved k log at l s on other = let e : (at == k) ≡ false = grind (arith, nat_tests) in rw e refl

is_moved : (k : ℕ) (l : Log) (s : State) → moved_if (k == k) l s ≡ moved l s
is_moved k l s = let e : (k == k) ≡ true = grind (arith, nat_tests) in rw e refl

other_stepped : (k log : ℕ) (l : Log) (call : Deed) → IsOn log call → k ≢ log → stepped k l call ≡ l
other_stepped k log l (Did Nothing) on other = refl
other_stepped k log l (Did (Cut at len)) on other = not_moved k log at l _ on other
other_stepped k log l (Did (HalfCut at len)) on other = not_moved k log at l _ on other
other_stepped k log l (Did (Sync at)) on other = not_moved k log at l _ on other
other_stepped k log l (Wrote Names name) on other = refl
other_stepped k log l (Wrote (End at) piece) on other = not_moved k log at l _ on other

-- the other logs stay
pub others_stay : (k log : ℕ) (l : Log) (old new : List Deed) (call : Deed) → IsOn log call → k ≢ log → HasTried old new call → log_after k l new ≡ log_after k l old
others_stay k log l old new call on other (inl same) = ap (log_after k l) same
others_stay k log l old new call on other (inr more) = ap (log_after k l) more ∙ after_push k l old call ∙ other_stepped k log (log_after k l old) call on other

-- a call that changes nothing
pub all_stay : (k : ℕ) (l : Log) (old new : List Deed) → HasTried old new (Did Nothing) → log_after k l new ≡ log_after k l old
all_stay k l old new (inl same) = ap (log_after k l) same
all_stay k l old new (inr more) = ap (log_after k l) more ∙ after_push k l old (Did Nothing)

none_passed : (l m : Log) → m ≡ l → Passed l m []
none_passed l m e = record { trail = ap (λ (x : Log). x.trail) e ∙ sym (append-nil l.trail); state = ap (λ (x : Log). x.state) e }

one_passed : (l m : Log) (s : State) → m ≡ moved l s → Passed l m (s ∷ [])
one_passed l m s e = record { trail = ap (λ (x : Log). x.trail) e; state = ap (λ (x : Log). x.state) e }

pushed : (k : ℕ) (l : Log) (old new : List Deed) (call : Deed) (s : State) → new ≡ old ++ call ∷ [] → stepped k (log_after k l old) call ≡ moved_if (k == k) (log_after k l old) s → log_after k l new ≡ moved (log_after k l old) s
pushed k l old new call s more is = ap (log_after k l) more ∙ after_push k l old call ∙ is ∙ is_moved k (log_after k l old) s

-- a sync that was done
pub sync_done : (k : ℕ) (l : Log) (old new : List Deed) → new ≡ old ++ Did (Sync k) ∷ [] → log_after k l new ≡ moved (log_after k l old) (settled (log_after k l old).state.now)
sync_done k l old new more = pushed k l old new (Did (Sync k)) _ more refl

pub sync_passes : (k : ℕ) (l : Log) (old new : List Deed) → new ≡ old ++ Did (Sync k) ∷ [] → Synced (log_after k l old) (log_after k l new)
sync_passes k l old new more = record { states = settled (log_after k l old).state.now ∷ []; each = (inr refl, tt); passed = one_passed _ _ _ (sync_done k l old new more) }

pub sync_fails : (k : ℕ) (l : Log) (old new : List Deed) → HasTried old new (Did Nothing) → Synced (log_after k l old) (log_after k l new)
sync_fails k l old new tried = record { states = []; each = tt; passed = none_passed _ _ (all_stay k l old new tried) }

-- a cut that was done, or went some way
cut_to : (k len : ℕ) (l : Log) (old new : List Deed) (d : Deed) (s : State) → new ≡ old ++ d ∷ [] → stepped k (log_after k l old) d ≡ moved_if (k == k) (log_after k l old) s → states.IsInCut (log_after k l old).state len s
    → states.Cut len (log_after k l old) (log_after k l new)
cut_to k len l old new d s more is here = record { states = s ∷ []; each = (here, tt); passed = one_passed _ _ _ (pushed k l old new d s more is) }

cut_done : (k len : ℕ) (l : Log) (old new : List Deed) → new ≡ old ++ Did (Cut k len) ∷ [] → (log_after k l new).state ≡ shortened (log_after k l old).state len
cut_done k len l old new more = ap (λ (x : Log). x.state) (pushed k l old new (Did (Cut k len)) _ more refl)

pub cut_tries : (k len : ℕ) (l : Log) (old new : List Deed) (change : Change) → IsCutChange k len change → HasTried old new (Did change) → states.Cut len (log_after k l old) (log_after k l new)
cut_tries k len l old new change is (inl same) = record { states = []; each = tt; passed = none_passed _ _ (ap (log_after k l) same) }
cut_tries k len l old new change (inl e) (inr more) = record { states = []; each = tt; passed = none_passed _ _ (all_stay k l old new (inr (more ∙ ap (λ (c : Change). old ++ Did c ∷ []) e))) }
cut_tries k len l old new change (inr (inl e)) (inr more) = cut_to k len l old new (Did (HalfCut k len)) (half_cut (log_after k l old).state len) (more ∙ ap (λ (c : Change). old ++ Did c ∷ []) e) refl (inr (inl refl))
cut_tries k len l old new change (inr (inr e)) (inr more) = cut_to k len l old new (Did (Cut k len)) (shortened (log_after k l old).state len) (more ∙ ap (λ (c : Change). old ++ Did c ∷ []) e) refl (inr (inr refl))

pub cut_on : (k len : ℕ) (change : Change) → IsCutChange k len change → IsOn k (Did change)
cut_on k len change (inl e) = subst (λ (c : Change). IsOn k (Did c)) (sym e) tt
cut_on k len change (inr (inl e)) = subst (λ (c : Change). IsOn k (Did c)) (sym e) refl
cut_on k len change (inr (inr e)) = subst (λ (c : Change). IsOn k (Did c)) (sym e) refl

-- an append whose part went out
append_goes : (k : ℕ) (l : Log) (old new : List Deed) (piece said unsaid : List ℕ) → piece ≡ said ++ unsaid → new ≡ old ++ Wrote (End k) said ∷ [] → Appended piece unsaid (log_after k l old) (log_after k l new)
append_goes k l old new piece said unsaid split more = record {
  parts = said ∷ [];
  split = split ∙ ap (λ (x : List ℕ). x ++ unsaid) (sym (append-nil said));
  passed = one_passed _ _ _ (pushed k l old new (Wrote (End k) said) (appended (log_after k l old).state said) more refl);
}

append_stays : (k : ℕ) (l : Log) (old new : List Deed) (piece : List ℕ) → new ≡ old → Appended piece piece (log_after k l old) (log_after k l new)
append_stays k l old new piece same = record { parts = []; split = refl; passed = none_passed _ _ (ap (log_after k l) same) }

-- reading as the record goes
now_moved : (b : Bool) (l : Log) (s : State) → (moved_if b l s).state.now ≡ (if b then s.now else l.state.now)
now_moved true l s = refl
now_moved false l s = refl

now_same : (b : Bool) (l : Log) (s : State) → s.now ≡ l.state.now → (moved_if b l s).state.now ≡ l.state.now
now_same true l s e = e
now_same false l s e = refl

now_shortened : (b : Bool) (s : State) (len : ℕ) → (shortened_if b s len).now ≡ take len s.now
now_shortened true s len = refl
now_shortened false s len = refl

now_stepped : (k : ℕ) (l : Log) (d : Deed) → (stepped k l d).state.now ≡ now_after k l.state.now d
now_stepped k l (Did Nothing) = refl
now_stepped k l (Did (Cut log len)) = now_moved (log == k) l (shortened l.state len) ∙ ap (λ (x : List ℕ). if log == k then x else l.state.now) (now_shortened _ l.state len)
now_stepped k l (Did (HalfCut log len)) = now_same (log == k) l (half_cut l.state len) refl
now_stepped k l (Did (Sync log)) = now_same (log == k) l (settled l.state.now) refl
now_stepped k l (Wrote Names name) = refl
now_stepped k l (Wrote (End log) piece) = now_moved (log == k) l (appended l.state piece)

pub now_more : (k : ℕ) (l : Log) (buffer : List ℕ) (calls : List Call) (i : ℕ) (none : Call) (bytes bytes' : List ℕ) → i < length calls → bytes ≡ (log_after k l (map (deed buffer) (take i calls))).state.now → bytes' ≡ now_after k bytes (deed buffer (get_or calls i none))
    → bytes' ≡ (log_after k l (map (deed buffer) (take (i + 1) calls))).state.now
now_more k l buffer calls i none bytes bytes' lt so_far is =
    let e : map (deed buffer) (take (i + 1) calls) ≡ map (deed buffer) (take i calls) ++ deed buffer (get_or calls i none) ∷ [] = ap (map (deed buffer)) (take_more calls i none lt) ∙ map-append (deed buffer) (take i calls) (get_or calls i none ∷ []) in
    is ∙ ap (λ (x : List ℕ). now_after k x (deed buffer (get_or calls i none))) so_far ∙ sym (now_stepped k (log_after k l (map (deed buffer) (take i calls))) (deed buffer (get_or calls i none))) ∙ ap (λ (x : Log). x.state.now) (sym (after_push k l (map (deed buffer) (take i calls)) (deed buffer (get_or calls i none)))) ∙ ap (λ (x : List Deed). (log_after k l x).state.now) (sym e)

-- by what the call answered
pub tried : (r : Result (Unit {0}) Failed) (old new : List Deed) (d : Deed) → OnOk r (new ≡ old ++ d ∷ []) → OnErr r (new ≡ old) → HasTried old new d
tried (Ok u) old new d ok err = inr ok
tried (Err e) old new d ok err = inl err

pub sync_by : (r : Result (Unit {0}) Failed) (k : ℕ) (l : Log) (old new : List Deed) → OnOk r (new ≡ old ++ Did (Sync k) ∷ []) → OnErr r (new ≡ old)
    → Synced (log_after k l old) (log_after k l new) × OnOk r ((log_after k l new).state ≡ settled (log_after k l old).state.now) × OnErr r ((log_after k l new).state ≡ (log_after k l old).state)
sync_by (Ok u) k l old new ok err = (sync_passes k l old new ok, ap (λ (x : Log). x.state) (sync_done k l old new ok), tt)
sync_by (Err e) k l old new ok err = (sync_fails k l old new (inl err), tt, ap (λ (x : List Deed). (log_after k l x).state) err)

pub cut_by : (r : Result (Unit {0}) Failed) (k len : ℕ) (l : Log) (old new : List Deed) → OnOk r (new ≡ old ++ Did (Cut k len) ∷ []) → OnOk r ((log_after k l new).state ≡ shortened (log_after k l old).state len)
cut_by (Ok u) k len l old new ok = cut_done k len l old new ok
cut_by (Err e) k len l old new ok = tt

pub grew_by : (r : Result (Unit {0}) Failed) (k : ℕ) (l : Log) (old new : List Deed) (piece : List ℕ) → OnOk r (new ≡ old ++ Wrote (End k) piece ∷ []) → OnErr r (new ≡ old) → (unsaid : List ℕ) × OnOk r (unsaid ≡ []) × Appended piece unsaid (log_after k l old) (log_after k l new)
grew_by (Ok u) k l old new piece ok err = ([], refl, append_goes k l old new piece piece [] (sym (append-nil piece)) ok)
grew_by (Err e) k l old new piece ok err = (piece, tt, append_stays k l old new piece err)

pub some_grew : (r : Result (Unit {0}) Failed) (k : ℕ) (l : Log) (old new : List Deed) (piece : List ℕ) (goes : ℕ) → IsErr r → HasTried old new (Wrote (End k) (take goes piece)) → (unsaid : List ℕ) × OnOk r (unsaid ≡ []) × Appended piece unsaid (log_after k l old) (log_after k l new)
some_grew (Ok u) k l old new piece goes fails did = cc
some_grew (Err e) k l old new piece goes fails (inl same) = (piece, tt, append_stays k l old new piece same)
some_grew (Err e) k l old new piece goes fails (inr did) = (drop goes piece, tt, append_goes k l old new piece (take goes piece) (drop goes piece) (sym (take-append-drop goes piece)) did)

-- what was read is what a read gives
pub was_read : (k : ℕ) (first : List ℕ) (old new : List Deed) (bytes : List ℕ) → HasTried old new (Did Nothing) → bytes ≡ (log_after k (fresh first) new).state.now → bytes ≡ (log_after k (fresh first) old).state.now
was_read k first old new bytes did is = is ∙ ap (λ (x : Log). x.state.now) (all_stay k (fresh first) old new did)

pub sync_kept : (r : Result (Unit {0}) Failed) (k : ℕ) (l : Log) (old new : List Deed) → HasTried old new (Did Nothing) → OnErr r ((log_after k l new).state ≡ (log_after k l old).state)
sync_kept (Ok u) k l old new did = tt
sync_kept (Err e) k l old new did = ap (λ (x : Log). x.state) (all_stay k l old new did)

-- names
names_append : (xs ys : List Deed) → names_in (xs ++ ys) ≡ names_in xs ++ names_in ys
names_append [] ys = refl
names_append (Did change ∷ xs) ys = names_append xs ys
names_append (Wrote Names name ∷ xs) ys = ap (λ (l : List (List ℕ)). name ∷ l) (names_append xs ys)
names_append (Wrote (End log) piece ∷ xs) ys = names_append xs ys

-- a call that asks for no name
names_stay : (old new : List Deed) (d : Deed) → names_in (d ∷ []) ≡ [] → HasTried old new d → names_in new ≡ names_in old
names_stay old new d none (inl same) = ap names_in same
names_stay old new d none (inr more) = ap names_in more ∙ names_append old (d ∷ []) ∙ ap (λ (l : List (List ℕ)). names_in old ++ l) none ∙ append-nil (names_in old)

one_more : (old new : List Deed) (d : Deed) → HasTried old new d → length new ≤ length old + 1
one_more old new d (inl same) = rw same (omega arith)
one_more old new d (inr more) = rw (more, length-append) (omega arith)

-- a call that asks for no name, on a store that is attached
pub works_by : (faults faults' : ℕ) (attached : Bool) (contents : List (List ℕ)) (old new : List Deed) (d : Deed) → IsTrue attached → names_in (d ∷ []) ≡ [] → HasTried old new d
    → Works (store_of faults attached contents old) (store_of faults' attached contents new) 1
works_by faults faults' attached contents old new d is none did = record { told = refl; attached = is; names = λ told. names_stay old new d none did; calls = λ told. one_more old new d did }

pub name_more : (old new : List Deed) (name : List ℕ) → new ≡ old ++ Wrote Names name ∷ [] → names_in new ≡ names_in old ++ name ∷ []
name_more old new name more = ap names_in more ∙ names_append old (Wrote Names name ∷ [])

-- ---- the buffer of the bytes

part_grows : (bytes more : List ℕ) (start len : ℕ) → start + len ≤ length bytes → part (bytes ++ more) start len ≡ part bytes start len
part_grows bytes more start len le = ap (take len) (drop-append-le start bytes more (omega (arith, le))) ∙ take-append-le len (drop start bytes) more (omega (arith, le, length-drop start bytes))

deed_grows : (bytes more : List ℕ) (c : Call) → IsWithin (length bytes) c → deed (bytes ++ more) c ≡ deed bytes c
deed_grows bytes more (call.Did change) within = refl
deed_grows bytes more (call.Wrote target start len) within = ap (Wrote target) (part_grows bytes more start len within)

pub deeds_grow : (bytes more : List ℕ) (calls : List Call) → Each (IsWithin (length bytes)) calls → map (deed (bytes ++ more)) calls ≡ map (deed bytes) calls
deeds_grow bytes more [] within = refl
deeds_grow bytes more (c ∷ calls) within = let e = deed_grows bytes more c within.0 in rw e (ap (λ (l : List Deed). deed bytes c ∷ l) (deeds_grow bytes more calls within.1))

within_more : (n m : ℕ) (c : Call) → n ≤ m → IsWithin n c → IsWithin m c
within_more n m (call.Did change) le within = tt
within_more n m (call.Wrote target start len) le within = omega (arith, le, within)

pub within_grows : (n m : ℕ) (calls : List Call) → n ≤ m → Each (IsWithin n) calls → Each (IsWithin m) calls
within_grows n m calls le within = each_map (IsWithin n) (IsWithin m) calls (λ c. within_more n m c le) within

pub within_push : (n : ℕ) (calls : List Call) (c : Call) → Each (IsWithin n) calls → IsWithin n c → Each (IsWithin n) (calls ++ c ∷ [])
within_push n calls c within here = each_append (IsWithin n) calls (c ∷ []) within (here, tt)

-- a call more over the same bytes
pub deeds_push : (bytes : List ℕ) (calls : List Call) (c : Call) → map (deed bytes) (calls ++ c ∷ []) ≡ map (deed bytes) calls ++ deed bytes c ∷ []
deeds_push bytes calls c = map-append (deed bytes) calls (c ∷ [])

-- a call more whose bytes came to the end
pub deeds_write : (bytes piece : List ℕ) (calls : List Call) (target : Target) → Each (IsWithin (length bytes)) calls
    → map (deed (bytes ++ piece)) (calls ++ call.Wrote target (length bytes) (length piece) ∷ []) ≡ map (deed bytes) calls ++ Wrote target piece ∷ []
deeds_write bytes piece calls target within =
    let end : part (bytes ++ piece) (length bytes) (length piece) ≡ piece = ap (take (length piece)) (drop_at bytes piece (length bytes) refl) ∙ take_all (length piece) piece (omega arith) in
    deeds_push (bytes ++ piece) calls (call.Wrote target (length bytes) (length piece)) ∙ ap (λ (p : List ℕ). map (deed (bytes ++ piece)) calls ++ Wrote target p ∷ []) end ∙ ap (λ (l : List Deed). l ++ Wrote target piece ∷ []) (deeds_grow bytes piece calls within)

pub within_write : (bytes piece : List ℕ) (calls : List Call) (target : Target) → Each (IsWithin (length bytes)) calls → Each (IsWithin (length (bytes ++ piece))) (calls ++ call.Wrote target (length bytes) (length piece) ∷ [])
within_write bytes piece calls target within =
    let longer : length (bytes ++ piece) ≡ length bytes + length piece = length-append bytes piece in
    within_push (length (bytes ++ piece)) calls (call.Wrote target (length bytes) (length piece)) (within_grows (length bytes) (length (bytes ++ piece)) calls (omega (arith, longer)) within) (omega (arith, longer))

-- a name changes no log
pub name_stays : (k : ℕ) (l : Log) (old new : List Deed) (name : List ℕ) → new ≡ old ++ Wrote Names name ∷ [] → log_after k l new ≡ log_after k l old
name_stays k l old new name more = ap (log_after k l) more ∙ after_push k l old (Wrote Names name)

-- a failed attach that asked for no name
pub asks_none : (r : Result (Unit {0}) Failed) (old new : List Deed) (name : List ℕ) → IsErr r → HasTried old new (Did Nothing) → AsksFor r (names_in old) (names_in new) name
asks_none (Ok u) old new name fails did = cc
asks_none (Err e) old new name fails did = inl (names_stay old new (Did Nothing) refl did)

-- the record behind a call that brought bytes
pub write_ok : (r : Result (Unit {0}) Full) (bytes bytes' piece : List ℕ) (calls calls' : List Call) (target : Target) (start : ℕ) (old : List Deed) → Each (IsWithin (length bytes)) calls → map (deed bytes) calls ≡ old → start ≡ length bytes
    → bytes' ≡ bytes ++ piece → OnOk r (calls' ≡ calls ++ call.Wrote target start (length piece) ∷ []) → OnOk r (map (deed bytes') calls' ≡ old ++ Wrote target piece ∷ [])
write_ok (Ok u) bytes bytes' piece calls calls' target start old within seen at more pushed = rw (more, pushed, at) (deeds_write bytes piece calls target within ∙ ap (λ (l : List Deed). l ++ Wrote target piece ∷ []) seen)
write_ok (Err e) bytes bytes' piece calls calls' target start old within seen at more pushed = tt

pub write_err : (r : Result (Unit {0}) Full) (bytes bytes' piece : List ℕ) (calls calls' : List Call) (old : List Deed) → Each (IsWithin (length bytes)) calls → map (deed bytes) calls ≡ old
    → bytes' ≡ bytes ++ piece → OnErr r (calls' ≡ calls) → OnErr r (map (deed bytes') calls' ≡ old)
write_err (Ok u) bytes bytes' piece calls calls' old within seen more same = tt
write_err (Err e) bytes bytes' piece calls calls' old within seen more same = rw (more, same) (deeds_grow bytes piece calls within ∙ seen)
