-- A run of some orders, and a run in which nothing is done.
use Rattle.std.proofs.Common.{◌≡◌, ◌⊎◌, List, ℕ, inl, inr, sym, subst}
use Rattle.std.specs.Prelude.{IfOk, IfErr}
use Rattle.std.specs.declared.result.Result.{Result}
use Rattle.std.specs.declared.result.Result.TheVariants.{Ok, Err}
use Rattle.cube_opening.specs.Causes.{HasCauses, IsStatus, IsStill, Rises}
use Rattle.cube_opening.specs.Outside.{Outside, UsesNone, counted}
use Rattle.cube_opening.specs.Reports.{IsReport, NoMessage}
use Rattle.cube_opening.specs.declared.report.Report.{Report}
use Rattle.cube_io.specs.Seen.{FolderState, SinkState, StoreState, WireState}
use Rattle.cube_io.specs.Wires.{LogEntry}
use Rattle.cube_words.specs.declared.ordered.Orders.{Orders}
use Rattle.cube_words.specs.declared.ordered.Orders.TheVariants.{Help, Version, Draft, Sum, Check, Ask, Witness, Twin, Compact, Carry, Why, Audit, Advise, Serve, Replay, Demo}
use Rattle.cube_words.specs.declared.words.Usage.{Usage}
use Rattle.cube_app.specs.Runs.{Permits, Obeyed, NoneRose, CalmStatus, Runs}
use Rattle.cube_app.specs.Texts.{usage_text}

-- what was obeyed, by another name of the orders
pub obeyed_as : {F S I O W : Type 0} {objects : Outside F S I O W} {r : Report} (o o' : Orders) → o ≡ o' → Obeyed o' objects r → Obeyed o objects r
obeyed_as {F} {S} {I} {O} {W} {objects} {r} o o' same x = subst (λ (x : Orders). Obeyed x objects r) (sym same) x

pub each_ok : {T E : Type 0} (r : Result T E) (P : T → Type 0) → ((x : T) → P x) → IfOk r P
each_ok (Ok x) P f = f x
each_ok (Err e) P f = tt

each_err : {T E : Type 0} (r : Result T E) (P : E → Type 0) → ((e : E) → P e) → IfErr r P
each_err (Ok x) P f = tt
each_err (Err e) P f = f e

no_memory : {n : ℕ} → n ≡ 7 → CalmStatus n
no_memory e = inr (inr (inr (inr (inl e))))

-- where no count rose the status is one of the run's own
calm_end : {F S I O W : Type 0} (objects : Outside F S I O W) {r : Report} → HasCauses (counted objects) r → NoneRose (counted objects) → CalmStatus r.status
calm_end {F} {S} {I} {O} {W} objects {r} x calm = go x.status
  where
    unread : (Rises (counted objects).files × IsStill (counted objects).input) ⊎ (Rises (counted objects).input × IsStill (counted objects).files) → ⊥
    unread (inl e) = calm.0 e.0
    unread (inr e) = calm.2 e.0

    go : IsStatus r.status → CalmStatus r.status
    go (inl e) = inr e
    go (inr (inl e)) = absurd (unread (x.unreadable e))
    go (inr (inr (inl e))) = absurd (calm.3 (x.output e))
    go (inr (inr (inr (inl e)))) = absurd (calm.4 (x.unheard e))
    go (inr (inr (inr (inr e)))) = absurd (calm.1 (x.unkept e).0)

-- nothing is done where there is no memory to begin
pub not_begun : {F S I O W : Type 0} {objects : Outside F S I O W} {r : Report} (words : List (List ℕ)) (given : Result Orders Usage) → NoMessage r → UsesNone objects → Runs words given objects r
not_begun {F} {S} {I} {O} {W} {objects} {r} words given none same = record {
  refused = each_err given (λ usage. (IsReport 2 (usage_text words usage) r ⊎ NoMessage r) × UsesNone objects) (λ usage. (inr none, same));
  obeyed = each_ok given (λ orders. Obeyed orders objects r ⊎ (NoMessage r × UsesNone objects)) (λ orders. inr (none, same));
  calm = λ calm. no_memory none.0;
}

pub refused_as : {F S I O W : Type 0} {objects : Outside F S I O W} {r : Report} (words : List (List ℕ)) (given : Result Orders Usage) (usage : Usage) → Err usage ≡ given → IsReport 2 (usage_text words usage) r ⊎ NoMessage r → UsesNone objects → Runs words given objects r
refused_as {F} {S} {I} {O} {W} {objects} {r} words given usage is told same = subst (λ (x : Result Orders Usage). Runs words x objects r) is (record { refused = (told, same); obeyed = tt; calm = λ calm. wrong told })
  where
    wrong : IsReport 2 (usage_text words usage) r ⊎ NoMessage r → CalmStatus r.status
    wrong (inl e) = inl e.0
    wrong (inr e) = no_memory e.0

pub run_as : {F S I O W : Type 0} {objects : Outside F S I O W} {r : Report} (words : List (List ℕ)) (given : Result Orders Usage) (orders : Orders) → Ok orders ≡ given → Obeyed orders objects r → Runs words given objects r
run_as {F} {S} {I} {O} {W} {objects} {r} words given orders is done = subst (λ (x : Result Orders Usage). Runs words x objects r) is (record { refused = tt; obeyed = inl done; calm = calm_end objects done.causes })

-- ---- objects that allow everything

pub permits_all : {F S : Type 0} (folder : F → FolderState) (tells : S → StoreState) (puts : StoreState → List ℕ → List ℕ → Type 0) (looks : StoreState → List LogEntry → Type 0) (files : F) (store : S) (out : SinkState) (wire : WireState)
    → ((s : StoreState) (bytes piece : List ℕ) → puts s bytes piece) → ((s : StoreState) (log : List LogEntry) → looks s log) → (o : Orders) → Permits {F = F} {S = S} folder tells puts looks files store out wire o
permits_all {F} {S} folder tells puts looks files store out wire all every (Help on) = tt
permits_all {F} {S} folder tells puts looks files store out wire all every Version = tt
permits_all {F} {S} folder tells puts looks files store out wire all every (Draft a) = tt
permits_all {F} {S} folder tells puts looks files store out wire all every (Sum a) = tt
permits_all {F} {S} folder tells puts looks files store out wire all every (Check a) = tt
permits_all {F} {S} folder tells puts looks files store out wire all every (Ask a b c) = λ t bytes piece told is. all (tells t) bytes piece
permits_all {F} {S} folder tells puts looks files store out wire all every (Witness a b c) = tt
permits_all {F} {S} folder tells puts looks files store out wire all every (Twin a b c) = tt
permits_all {F} {S} folder tells puts looks files store out wire all every (Compact a b c) = tt
permits_all {F} {S} folder tells puts looks files store out wire all every (Carry a b c d) = tt
permits_all {F} {S} folder tells puts looks files store out wire all every (Why a b c d) = tt
permits_all {F} {S} folder tells puts looks files store out wire all every (Audit a b) = tt
permits_all {F} {S} folder tells puts looks files store out wire all every (Advise a b c) = tt
permits_all {F} {S} folder tells puts looks files store out wire all every (Serve a b c d e) = λ told f t log asked same is. every (tells t) log
permits_all {F} {S} folder tells puts looks files store out wire all every (Replay a b c d) = tt
permits_all {F} {S} folder tells puts looks files store out wire all every (Demo a) = tt
