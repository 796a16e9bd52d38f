-- A history that is carried over again and again.
use Rattle.std.proofs.Common.{◌≡◌, inl, inr, ⊎_elim, ℕ, ◌<◌, List, [], ◌∷◌, length, ℤ, refl, sym, subst, ◌∙◌}
use Rattle.cube_model.specs.declared.entry.Entry.{Entry}
use Rattle.cube_model.specs.declared.policy.Method.{Method}
use Rattle.cube_model.specs.Cubes.{IsIn}
use Rattle.cube_model.specs.Protection.{method}
use Rattle.cube_model.specs.Verdicts.{IsAdmissible}
use Rattle.cube_model.specs.Twins.{changes, twin}
use Rattle.cube_model.specs.Runs.{replies, by_rules}
use Rattle.cube_model.specs.TwoWorlds.{Extends}
use Rattle.cube_model.proofs.Growth.{end_grows, extends_trans, replies_alike}
use Rattle.cube_model.proofs.Histories.{admissible_allowed}
use Rattle.cube_model.proofs.Holding.{extended}
use Rattle.cube_model.proofs.Worlds.{stays_admissible, later_changes, length-changes}
use Rattle.cube_carry.specs.Names.{Named, known, world_of, IsNamed, measure_in}
use Rattle.cube_carry.specs.Continues.{Continues, KeepsValues}
use Rattle.cube_carry.specs.TwoLives.{AreLives, AreSilent, old_changes, old_twin, old_cell_changes}
use Rattle.cube_carry.specs.ManyLives.{Life, beginning, ending, GoesOn, AreInTurn, AreSilentBefore, AllSilent, AreLivesInTurn, ManyLives, EarlierCells}
use Rattle.cube_carry.proofs.Carried.{carried_admissible}
use Rattle.cube_carry.proofs.Leaving.{FitsBy, fits_leaves}
use Rattle.cube_carry.proofs.Lives.{fits_old, fits_silent, changes_fit}
use Rattle.cube_carry.proofs.Measures.{had, is_found}
use Rattle.cube_carry.proofs.OldCells.{sum_there, length-old_cell}
use Rattle.cube_carry.proofs.OldPlaces.{old_cell_fits, protected_measure}
use Rattle.cube_carry.proofs.Onwards.{continues_onward, values_onward, changes_onward, measure_before, measure_between}
use Rattle.cube_carry.proofs.Silence.{length-old_changes, long_values, keeps, nothing_changed}
use Rattle.cube_model.proofs.Bases.{below_or}

-- each life begins with an admissible history
pub begins_admissible : (h : List Entry) (ls : List Life) (b : Named) (new : List (List ℤ)) → AreInTurn h ls b new → IsNamed b new → IsAdmissible (known b) (beginning h ls b)
begins_admissible h [] b new turn nb = turn
begins_admissible h (l ∷ ls) b new turn nb = carried_admissible l.cube b l.values new (ending h ls l) turn.0.is_named nb turn.0.continues (stays_admissible (known l.cube) (beginning h ls l.cube) l.asks (begins_admissible h ls l.cube l.values turn.1 turn.0.is_named)) turn.0.carried

-- a life and the next cube, before anything is asked of that
step : (h : List Entry) (ls : List Life) (l : Life) (b : Named) (new : List (List ℤ)) (last : List Entry) → GoesOn h ls l b new → AreInTurn h ls l.cube l.values → IsNamed b new → IsAdmissible (known b) last → Extends (beginning h (l ∷ ls) b) last → AreLives l.cube b l.values new (beginning h ls l.cube) l.asks [] last
step h ls l b new last on turn nb adm ext = record {
  old_named = on.is_named;
  new_named = nb;
  continues = on.continues;
  same_values = on.same_values;
  admissible = begins_admissible h ls l.cube l.values turn on.is_named;
  carried = on.carried;
  later_admissible = adm;
  extends = ext;
}

-- a cube of an earlier life, seen from the last
pub record Leads (a b : Named) (old new : List (List ℤ)) : Type 0 where
  pub is_named : IsNamed a old
  pub continues : Continues a b
  pub same_values : KeepsValues a b old new

leads_on : (a b c : Named) (x y z : List (List ℤ)) → Leads b c y z → IsNamed a x → Continues a b → KeepsValues a b x y → IsNamed c z → Leads a c x z
leads_on a b c x y z r na ab kv nc = record { is_named = na; continues = continues_onward a b c x y z na r.is_named nc ab r.continues; same_values = values_onward a b c x y z na r.is_named nc ab r.continues kv r.same_values }

-- what a cube between makes of changes of the last one
abbrev FitsThere : Named → Named → List Entry → ℕ → List ℤ → Method → Type 0
FitsThere q b last m ch way = measure_in b.dims q.dims m < length q.dims.measures → (method (known q) (measure_in b.dims q.dims m) ≡ way) × FitsBy way (known q) last (measure_in b.dims q.dims m) (old_changes q b ch)

module _ (h : List Entry) (b : Named) (new : List (List ℤ)) (nb : IsNamed b new) (m : ℕ) (ch : List ℤ) (way : Method) (there : m < length b.dims.measures) (long : length ch ≡ length b.shape.points) where
  -- from a cube between on, no life before is told of the changes
  further : (ls : List Life) (q : Named) (y : List (List ℤ)) (last : List Entry) → AreInTurn h ls q y → Leads q b y new → IsAdmissible (known q) last → Extends (beginning h ls q) last → FitsThere q b last m ch way → AreSilentBefore h ls b new m ch
  further [] q y last turn r adm ext fit = tt
  further (l ∷ ls) q y last turn r adm ext fit = (
    same,
    keeps l.cube b l.values new onward.is_named nb onward.continues onward.same_values m ch there long,
    further ls l.cube l.values (ending h ls l) turn.1 onward
        (stays_admissible (known l.cube) (beginning h ls l.cube) l.asks (begins_admissible h ls l.cube l.values turn.1 turn.0.is_named))
        (end_grows (known l.cube) (beginning h ls l.cube) l.asks)
        fits_there,
  )
    where
      onward : Leads l.cube b l.values new
      onward = leads_on l.cube q b l.values y new r turn.0.is_named turn.0.continues turn.0.same_values nb

      lives : AreLives l.cube q l.values y (beginning h ls l.cube) l.asks [] last
      lives = step h ls l q y last turn.0 turn.1 r.is_named adm ext

      n : ℕ
      n = measure_in b.dims q.dims m

      -- by way of the cube between
      between : measure_in b.dims l.cube.dims m < length l.cube.dims.measures → measure_in b.dims q.dims m < length q.dims.measures
      between d = measure_between l.cube q b l.values y new turn.0.is_named r.is_named nb turn.0.continues r.continues m d

      one_measure : measure_in b.dims q.dims m < length q.dims.measures → measure_in b.dims l.cube.dims m ≡ measure_in q.dims l.cube.dims (measure_in b.dims q.dims m)
      one_measure d = measure_before l.cube q b l.values y new turn.0.is_named r.is_named nb turn.0.continues r.continues m d

      one_change : old_changes l.cube b ch ≡ old_changes l.cube q (old_changes q b ch)
      one_change = changes_onward l.cube q b l.values y new turn.0.is_named r.is_named nb turn.0.continues r.continues ch

      fits_there : FitsThere l.cube b (ending h ls l) m ch way
      fits_there d =
          let e = between d in
          let x = fit e in
          let k = one_measure e in
          let inside : measure_in q.dims l.cube.dims (measure_in b.dims q.dims m) < length l.cube.dims.measures = subst (λ z. z < length l.cube.dims.measures) k d in (
            subst (λ z. method (known l.cube) z ≡ way) (sym k) ((had l.cube q y (measure_in b.dims q.dims m) r.is_named turn.0.continues e inside).way ∙ x.0),
            subst (λ z. FitsBy way (known l.cube) (ending h ls l) z (old_changes l.cube b ch)) (sym k) (subst (λ z. FitsBy way (known l.cube) (ending h ls l) (measure_in q.dims l.cube.dims (measure_in b.dims q.dims m)) z) (sym one_change)
                (fits_old l.cube q l.values y (beginning h ls l.cube) l.asks [] last lives (measure_in b.dims q.dims m) (old_changes q b ch) way x.0 x.1 inside)),
          )

      same : replies by_rules (old_twin l.cube b l.values m ch) (beginning h ls l.cube) l.asks ≡ replies by_rules (world_of l.cube l.values) (beginning h ls l.cube) l.asks
      same = ⊎_elim
          (λ d. let e = between d in let x = fit e in
          subst (λ z. replies by_rules (twin (world_of l.cube l.values) z (old_changes l.cube b ch)) (beginning h ls l.cube) l.asks ≡ replies by_rules (world_of l.cube l.values) (beginning h ls l.cube) l.asks) (sym (one_measure e))
          (subst (λ z. replies by_rules (twin (world_of l.cube l.values) (measure_in q.dims l.cube.dims (measure_in b.dims q.dims m)) z) (beginning h ls l.cube) l.asks ≡ replies by_rules (world_of l.cube l.values) (beginning h ls l.cube) l.asks) (sym one_change)
          (fits_silent l.cube q l.values y (beginning h ls l.cube) l.asks [] last lives (measure_in b.dims q.dims m) (old_changes q b ch) way x.0 x.1 (length-old_changes q b ch)).old_replies))
          (λ d. nothing_changed l.cube b l.values (beginning h ls l.cube) l.asks m ch turn.0.is_named d)
          (below_or (measure_in b.dims l.cube.dims m) (length l.cube.dims.measures))

  -- changes that fit a history which goes on from the carried one are told by no life before
  pub silent_before : (ls : List Life) (last : List Entry) → AreInTurn h ls b new → IsAdmissible (known b) last → Extends (beginning h ls b) last → method (known b) m ≡ way → FitsBy way (known b) last m ch → AreSilentBefore h ls b new m ch
  silent_before [] last turn adm ext e fit = tt
  silent_before (l ∷ ls) last turn adm ext e fit = (
    silent.old_replies,
    silent.same_values,
    further ls l.cube l.values (ending h ls l) turn.1 (record { is_named = turn.0.is_named; continues = turn.0.continues; same_values = turn.0.same_values })
        (stays_admissible (known l.cube) (beginning h ls l.cube) l.asks (begins_admissible h ls l.cube l.values turn.1 turn.0.is_named))
        (end_grows (known l.cube) (beginning h ls l.cube) l.asks)
        (λ d. ((had l.cube b new m nb turn.0.continues there d).way ∙ e, fits_old l.cube b l.values new (beginning h ls l.cube) l.asks [] last lives m ch way e fit d)),
  )
    where
      lives : AreLives l.cube b l.values new (beginning h ls l.cube) l.asks [] last
      lives = step h ls l b new last turn.0 turn.1 nb adm ext

      silent : AreSilent l.cube b l.values new (beginning h ls l.cube) l.asks [] m ch
      silent = fits_silent l.cube b l.values new (beginning h ls l.cube) l.asks [] last lives m ch way e fit long

-- changes that fit the later history are told by no life
pub all_silent : (h : List Entry) (ls : List Life) (l : Life) (later : List Entry) (m : ℕ) (ch : List ℤ) (way : Method) → AreLivesInTurn h ls l later → m < length l.cube.dims.measures → length ch ≡ length l.cube.shape.points → method (known l.cube) m ≡ way → FitsBy way (known l.cube) later m ch → AllSilent h ls l m ch
all_silent h ls l later m ch way lives there long e fit = record {
  same_replies = let v = long_values l.cube l.values m lives.last_named there in replies_alike (world_of l.cube l.values) m ch later v.0 (v.1 ∙ sym long)
      (fits_leaves (world_of l.cube l.values) later m ch way lives.last_named.world (admissible_allowed (known l.cube) [] later lives.later_admissible) e fit) (beginning h ls l.cube) l.asks (
        admissible_allowed (known l.cube) [] (ending h ls l) (stays_admissible (known l.cube) (beginning h ls l.cube) l.asks (begins_admissible h ls l.cube l.values lives.in_turn lives.last_named)),
        extended (known l.cube) (ending h ls l) later (admissible_allowed (known l.cube) [] later lives.later_admissible) lives.extends,
      );
  silent_before = silent_before h l.cube l.values lives.last_named m ch way there long ls later lives.in_turn lives.later_admissible (extends_trans (beginning h ls l.cube) (ending h ls l) later (end_grows (known l.cube) (beginning h ls l.cube) l.asks) lives.extends) e fit;
}

pub many_lives : ManyLives
many_lives h ls l later m t lives is_in = record {
  silent = all_silent h ls l later m (changes (known l.cube) later m t) (method (known l.cube) m) lives (protected_measure l.cube l.values m t lives.last_named is_in) (length-changes (known l.cube) later m t) refl (changes_fit (world_of l.cube l.values) later m t (method (known l.cube) m) lives.last_named.world refl lives.later_admissible is_in);
  other_sum = (later_changes (world_of l.cube l.values) (beginning h ls l.cube) later l.asks m t lives.last_named.world lives.later_admissible lives.extends is_in).other_sum;
}

-- each cube of an earlier life is continued by the last
leads : (h : List Entry) (ls : List Life) (o : Life) (b : Named) (new : List (List ℤ)) → AreInTurn h ls b new → IsNamed b new → IsIn o ls → Leads o.cube b o.values new
leads h [] o b new turn nb is_in = absurd is_in
leads h (l ∷ ls) o b new turn nb (inl e) = subst (λ z. Leads z.cube b z.values new) e (record { is_named = turn.0.is_named; continues = turn.0.continues; same_values = turn.0.same_values })
leads h (l ∷ ls) o b new turn nb (inr k) =
    let r = leads h ls o l.cube l.values turn.1 turn.0.is_named k in
    leads_on o.cube l.cube b o.values l.values new (record { is_named = turn.0.is_named; continues = turn.0.continues; same_values = turn.0.same_values }) r.is_named r.continues r.same_values nb

pub earlier_cells : EarlierCells
earlier_cells h ls l o later k t lives among is_in =
    let r = leads h ls o l.cube l.values lives.in_turn lives.last_named among in
    let kb = protected_measure o.cube o.values k t r.is_named is_in in
    let m : ℕ = measure_in o.cube.dims l.cube.dims k in
    let x = old_cell_fits o.cube l.cube o.values l.values later k t (method (known o.cube) k) r.is_named lives.last_named r.continues lives.later_admissible kb refl is_in in
    record {
      silent = all_silent h ls l later m (old_cell_changes o.cube l.cube later m t) (method (known o.cube) k) lives (is_found o.cube l.cube k r.continues kb).there (length-old_cell o.cube l.cube o.values l.values r.is_named lives.last_named r.continues later lives.later_admissible k kb t) (sym (is_found o.cube l.cube k r.continues kb).way) x.0;
      other_sum = sum_there o.cube l.cube o.values l.values r.is_named lives.last_named r.continues later lives.later_admissible k kb t (old_cell_changes o.cube l.cube later m t) x.1;
    }
