-- What the compacted history keeps of a history.
use Rattle.std.proofs.Common.{◌≡◌, refl, ap, ◌∙◌, ℕ, zero, suc, ◌+◌, ◌*◌, ◌≤◌, true, Ok, List, [], ◌∷◌, flat_map, length, length-append, Option, Some, None, arith}
use Rattle.std.proofs.lemmas.List.{length-map}
use Rattle.cube_model.specs.declared.entry.Entry.{Entry}
use Rattle.cube_model.specs.declared.entry.Entry.TheVariants.{Asked, Source, Linked}
use Rattle.cube_model.specs.declared.policy.Method.{Method}
use Rattle.cube_model.specs.declared.policy.Method.TheVariants.{Plain, Lattice, Parity}
use Rattle.cube_model.specs.declared.policy.Policy.{Policy}
use Rattle.cube_model.specs.Compaction.{compacted, compacted_on, compacted_by, source_entry, StandsFor}
use Rattle.cube_model.specs.Cores.{Core, IsCore, shown, world}
use Rattle.cube_model.specs.Cubes.{Public, IsWorld, Each, count_from}
use Rattle.cube_model.specs.Entries.{requests, is_allowed}
use Rattle.cube_model.specs.Links.{basis}
use Rattle.cube_model.specs.Policies.{IsPolicy}
use Rattle.cube_model.specs.Protection.{method}
use Rattle.cube_model.specs.Verdicts.{source, links_of, IsAdmissible}
use Rattle.cube_model.proofs.Bases.{basis_is_short}
use Rattle.cube_model.proofs.Compacts.{compacted_stands}
use Rattle.cube_model.proofs.Filled.{cores_are_worlds}
use Rattle.cube_model.proofs.Histories.{AreAllowed, admissible_allowed}
use Rattle.cube_model.proofs.Left.{admissible_is_left}
use Rattle.cube_admit.specs.declared.held.Pending.{Pending}
use Rattle.std.specs.Option.{option_map}
use Rattle.cube_journal.specs.Laws.{IsWithoutRequests}
use Rattle.cube_journal.specs.Sound.{IsSound}
use Rattle.cube_journal.specs.PublicText.{public_text_of}
use Rattle.cube_journal.specs.SecondText.{journal2_text}
use Rattle.cube_journal.proofs.Digested.{digests_are}
use Rattle.cube_journal.proofs.SecondBack.{second_reads_back, second_is_short}
use Rattle.cube_engine.specs.Compacting.{CompactionKeepsAll}
use Rattle.cube_engine.specs.Kept.{digest_for, first_entry, by_left, judged_in, history_of}
use Rattle.cube_engine.proofs.Alike.{replies_alike}
use Rattle.cube_engine.proofs.Worlds.{texts_read}

-- ---- its entries are ones that a journal may have

sound_each : (c : Core) (p : Policy) (es : List Entry) → AreAllowed (shown c p) es → requests es ≡ [] → Each (IsSound c.dims p (length c.shape.points)) es
unfolding is_allowed
sound_each c p [] a none = tt
sound_each c p (Asked r ∷ es) a none = absurd (cc)
sound_each c p (Source m levels ∷ es) a none = (a.0, sound_each c p es a.1 none)
sound_each c p (Linked m l ∷ es) a none = (a.0, sound_each c p es a.1 none)

-- a history of sources and links that is written as a journal
pub without_requests : (c : Core) (p : Policy) (es : List Entry) → IsCore c → IsPolicy c.dims p → IsAdmissible (shown c p) es → requests es ≡ [] → IsWithoutRequests c.dims p (length c.shape.points) es
without_requests c p es core policy adm none = record {
  dims = core.dims;
  few_measures = let a = core.dims.few_measures in let b = policy.methods in omega arith;
  few_places = let a = core.few_points in omega arith;
  no_requests = none;
  sound = sound_each c p es (admissible_allowed (shown c p) [] es adm) none;
}

-- what the journal recovers
pub written_recovers : (c : Core) (p : Policy) (es : List Entry) → IsCore c → IsPolicy c.dims p → IsAdmissible (shown c p) es → requests es ≡ [] → history_of c p (journal2_text (digest_for c p) es) ≡ Ok es
written_recovers c p es core policy adm none =
    ap (judged_in c p) (second_reads_back (digest_for c p) c.dims p (length c.shape.points) es (digests_are (public_text_of c.dims p c.shape)) (without_requests c p es core policy adm none)) ∙ ap by_left (admissible_is_left (shown c p) es first_entry adm)

-- how long it is
pub written_is_short : (c : Core) (p : Policy) (es : List Entry) → IsCore c → IsPolicy c.dims p → IsAdmissible (shown c p) es → requests es ≡ [] → length (journal2_text (digest_for c p) es) ≤ 80 + 128 * length es
written_is_short c p es core policy adm none = second_is_short (digest_for c p) c.dims p (length c.shape.points) es (digests_are (public_text_of c.dims p c.shape)) (without_requests c p es core policy adm none)

-- ---- there are few of them

few_by : (way : Method) (g : Public) (h : List Entry) (m : ℕ) → length g.shape.points ≤ 65536 → length (compacted_by way g h m) ≤ 65536
few_by Plain g h m few = omega arith
few_by Lattice g h m few = one (source h m)
  where
    one : (o : Option (List ℕ)) → length (source_entry m o) ≤ 65536
    one None = omega arith
    one (Some c) = omega arith
few_by Parity g h m few = let a = length-map (basis (length g.shape.points) (links_of g h m)) (Linked m) in let b = basis_is_short (length g.shape.points) (links_of g h m) in omega arith

few_from : (g : Public) (h : List Entry) (from n : ℕ) → length g.shape.points ≤ 65536 → length (flat_map (compacted_on g h) (count_from from n)) ≤ n * 65536
few_from g h from zero few = omega arith
few_from g h from (suc n) few =
    let here = few_by (method g from) g h from few in
    let rest = few_from g h (suc from) n few in
    let both = length-append (compacted_on g h from) (flat_map (compacted_on g h) (count_from (suc from) n)) in
    omega arith

few_entries : (c : Core) (p : Policy) (h : List Entry) → IsCore c → IsPolicy c.dims p → length (compacted (shown c p) h) ≤ 1048576
few_entries c p h core policy =
    let each = few_from (shown c p) h 0 (length p.methods) core.few_points in
    let few = core.dims.few_measures in
    let same = policy.methods in
    omega arith

-- ---- the whole

pub compaction_keeps_all : CompactionKeepsAll
compaction_keeps_all c p h core policy adm = record {
  stands = stands;
  recovers = written_recovers c p k core policy stands.admissible stands.no_requests;
  short = let a = written_is_short c p k core policy stands.admissible stands.no_requests in let b = few_entries c p h core policy in omega arith;
  replies = λ asks none. replies_alike c.dims (world c p) h k asks ok (texts_read c p core policy) adm stands.admissible (stands.alike, few) none;
}
  where
    k : List Entry
    k = compacted (shown c p) h

    ok : IsWorld (world c p)
    ok = cores_are_worlds c p core policy.methods

    stands : StandsFor (shown c p) h k
    stands = compacted_stands (world c p) h ok adm

    few : length (requests k) ≤ length (requests h)
    few = let e : length (requests k) ≡ 0 = ap length stands.no_requests in omega arith

-- ---- where no request waits

pub pending_is : (o : Option Pending) → option_map (λ (p : Pending). p.request) o ≡ None → o ≡ None
pending_is None e = refl
pending_is (Some p) e = absurd (cc)

pub compacted_is_alone : (c : Core) (p : Policy) (h : List Entry) → IsCore c → IsPolicy c.dims p → IsAdmissible (shown c p) h → requests (compacted (shown c p) h) ≡ []
compacted_is_alone c p h core policy adm = (compacted_stands (world c p) h (cores_are_worlds c p core policy.methods) adm).no_requests
