-- The causes of an end, with more objects, or behind what counted nothing.
use Rattle.std.proofs.Common.{◌≡◌, ◌≢◌, ◌⊎◌, ◌∙◌, ℕ, List, [], ◌∷◌, ◌++◌, inl, inr, refl, sym, subst, arith}
use Rattle.std.specs.Prelude.{Result}
use Rattle.cube_io.specs.Causes.{Rose}
use Rattle.cube_io.specs.Seen.{FolderState, SinkState, Seen}
use Rattle.cube_opening.specs.Causes.{Count, Counts, Rises, IsStill, unheld, only_files, only_out, IsOwn, HasCauses}
use Rattle.cube_opening.specs.Opening.{Unopened, EndsUnopened, EndsUnfounded, dims_said, facts_said, policy_said, IsSteady}
use Rattle.cube_opening.specs.Reports.{Prints}
use Rattle.cube_opening.specs.Ruling.{EndsUnruled, EndsAtRules, EndsAtOne, group_policy_said, groups_said, one_group}
use Rattle.cube_opening.specs.declared.cube_files.CubeFiles.{CubeFiles}
use Rattle.cube_opening.specs.declared.cube_files.RuledFiles.{RuledFiles}
use Rattle.cube_opening.specs.declared.cube_files.Rules.{Rules}
use Rattle.cube_opening.specs.declared.cube_files.Rules.TheVariants.{One, Groups}
use Rattle.cube_opening.specs.declared.report.Report.{Report}
use Rattle.cube_groups.specs.declared.group.GroupFile.{GroupFile}
use Rattle.cube_model.specs.Dims.{Dims}

-- ---- more objects

-- what is known of one count is known of the other
pub record Covers (c d : Count) : Type 0 where
  pub rises : Rises c → Rises d
  pub stays : IsStill c → IsStill d

pub same : {c : Count} → Covers c c
same {c} = record { rises = λ e. e; stays = λ e. e }

-- the object is not held, and is left alone
pub alone : {d : Count} → IsStill d → Covers unheld d
alone {d} still = record { rises = λ e. absurd (omega (arith, e)); stays = λ e. still }

-- it counted nothing before
pub later : {c d : Count} → c.before ≡ d.before → c.after ≡ d.after → Covers c d
later {c} {d} first last = record {
  rises = λ e. subst (λ (n : ℕ). Rose n d.after) first (subst (λ (n : ℕ). Rose c.before n) last e);
  stays = λ e. sym last ∙ e ∙ first;
}

-- so does a store that is not held
pub never : (d : Count) → Rises unheld → Rises d
never d e = absurd (omega (arith, e))

pub wider : {c d : Counts} {r : Report} → Covers c.files d.files → (Rises c.store → Rises d.store) → Covers c.input d.input → Covers c.out d.out → Covers c.wire d.wire → HasCauses c r → HasCauses d r
wider {c} {d} {r} files store input out wire x = record {
  status = x.status;
  unreadable = λ five. either (x.unreadable five);
  output = λ six. out.rises (x.output six);
  unheard = λ eight. wire.rises (x.unheard eight);
  unkept = λ nine. (store (x.unkept nine).0, (x.unkept nine).1);
  steady = λ no. (files.stays (x.steady no).0, input.stays (x.steady no).1);
  output_steady = λ no. out.stays (x.output_steady no);
  wire_steady = λ no. wire.stays (x.wire_steady no);
}
  where
    either : (Rises c.files × IsStill c.input) ⊎ (Rises c.input × IsStill c.files) → (Rises d.files × IsStill d.input) ⊎ (Rises d.input × IsStill d.files)
    either (inl e) = inl (files.rises e.0, input.stays e.1)
    either (inr e) = inr (input.rises e.0, files.stays e.1)

-- ---- ends for which nothing outside counted a fault

own_not : (n k : ℕ) → IsOwn n → n ≡ k → (k ≢ 0) × (k ≢ 3) × (k ≢ 4) × (k ≢ 7) × (k ≢ 10) × (k ≢ 1) → ⊥
own_not n k (inl e) is none = none.0 (sym is ∙ e)
own_not n k (inr (inl e)) is none = none.1 (sym is ∙ e)
own_not n k (inr (inr (inl e))) is none = none.2 (sym is ∙ e)
own_not n k (inr (inr (inr (inl e)))) is none = none.3 (sym is ∙ e)
own_not n k (inr (inr (inr (inr (inl e))))) is none = none.4 (sym is ∙ e)
own_not n k (inr (inr (inr (inr (inr e))))) is none = none.5 (sym is ∙ e)

five : (n : ℕ) → IsOwn n → n ≡ 5 → ⊥
five n own is = own_not n 5 own is ((λ e. omega (arith, e)), (λ e. omega (arith, e)), (λ e. omega (arith, e)), (λ e. omega (arith, e)), (λ e. omega (arith, e)), (λ e. omega (arith, e)))

six : (n : ℕ) → IsOwn n → n ≡ 6 → ⊥
six n own is = own_not n 6 own is ((λ e. omega (arith, e)), (λ e. omega (arith, e)), (λ e. omega (arith, e)), (λ e. omega (arith, e)), (λ e. omega (arith, e)), (λ e. omega (arith, e)))

eight : (n : ℕ) → IsOwn n → n ≡ 8 → ⊥
eight n own is = own_not n 8 own is ((λ e. omega (arith, e)), (λ e. omega (arith, e)), (λ e. omega (arith, e)), (λ e. omega (arith, e)), (λ e. omega (arith, e)), (λ e. omega (arith, e)))

nine : (n : ℕ) → IsOwn n → n ≡ 9 → ⊥
nine n own is = own_not n 9 own is ((λ e. omega (arith, e)), (λ e. omega (arith, e)), (λ e. omega (arith, e)), (λ e. omega (arith, e)), (λ e. omega (arith, e)), (λ e. omega (arith, e)))

-- nothing is held, or all counts stayed
pub record AreStill (c : Counts) : Type 0 where
  pub files : IsStill c.files
  pub input : IsStill c.input
  pub out : IsStill c.out
  pub wire : IsStill c.wire

pub own : {c : Counts} {r : Report} → IsOwn r.status → AreStill c → HasCauses c r
own {c} {r} is still = record {
  status = inl is;
  unreadable = λ e. absurd (five r.status is e);
  output = λ e. absurd (six r.status is e);
  unheard = λ e. absurd (eight r.status is e);
  unkept = λ e. absurd (nine r.status is e);
  steady = λ no. (still.files, still.input);
  output_steady = λ no. still.out;
  wire_steady = λ no. still.wire;
}

-- memory ran out
pub no_memory : {c : Counts} {r : Report} → r.status ≡ 7 → AreStill c → HasCauses c r
no_memory e still = own (inr (inr (inr (inl e)))) still

-- what was given or asked for is refused
pub refused : {c : Counts} {r : Report} → r.status ≡ 3 → AreStill c → HasCauses c r
refused e still = own (inr (inl e)) still

-- ---- ends at an object outside

pub at_read : {c : Counts} {r : Report} → r.status ≡ 5 → Rises c.files → IsStill c.input → IsStill c.out → IsStill c.wire → HasCauses c r
at_read {c} {r} is rose input out wire = record {
  status = inr (inl is);
  unreadable = λ e. inl (rose, input);
  output = λ e. absurd (omega (arith, is, e));
  unheard = λ e. absurd (omega (arith, is, e));
  unkept = λ e. absurd (omega (arith, is, e));
  steady = λ no. absurd (no is);
  output_steady = λ no. out;
  wire_steady = λ no. wire;
}

pub at_input : {c : Counts} {r : Report} → r.status ≡ 5 → Rises c.input → IsStill c.files → IsStill c.out → IsStill c.wire → HasCauses c r
at_input {c} {r} is rose files out wire = record {
  status = inr (inl is);
  unreadable = λ e. inr (rose, files);
  output = λ e. absurd (omega (arith, is, e));
  unheard = λ e. absurd (omega (arith, is, e));
  unkept = λ e. absurd (omega (arith, is, e));
  steady = λ no. absurd (no is);
  output_steady = λ no. out;
  wire_steady = λ no. wire;
}

pub at_out : {c : Counts} {r : Report} → r.status ≡ 6 → Rises c.out → IsStill c.files → IsStill c.input → IsStill c.wire → HasCauses c r
at_out {c} {r} is rose files input wire = record {
  status = inr (inr (inl is));
  unreadable = λ e. absurd (omega (arith, is, e));
  output = λ e. rose;
  unheard = λ e. absurd (omega (arith, is, e));
  unkept = λ e. absurd (omega (arith, is, e));
  steady = λ no. (files, input);
  output_steady = λ no. absurd (no is);
  wire_steady = λ no. wire;
}

pub at_wire : {c : Counts} {r : Report} → r.status ≡ 8 → Rises c.wire → IsStill c.files → IsStill c.input → IsStill c.out → HasCauses c r
at_wire {c} {r} is rose files input out = record {
  status = inr (inr (inr (inl is)));
  unreadable = λ e. absurd (omega (arith, is, e));
  output = λ e. absurd (omega (arith, is, e));
  unheard = λ e. rose;
  unkept = λ e. absurd (omega (arith, is, e));
  steady = λ no. (files, input);
  output_steady = λ no. out;
  wire_steady = λ no. absurd (no is);
}

pub at_store : {c : Counts} {r : Report} → r.status ≡ 9 → Rises c.store → r.outcomes ≡ [] → AreStill c → HasCauses c r
at_store {c} {r} is rose none still = record {
  status = inr (inr (inr (inr is)));
  unreadable = λ e. absurd (omega (arith, is, e));
  output = λ e. absurd (omega (arith, is, e));
  unheard = λ e. absurd (omega (arith, is, e));
  unkept = λ e. (rose, none);
  steady = λ no. (still.files, still.input);
  output_steady = λ no. still.out;
  wire_steady = λ no. still.wire;
}

-- a text was put, or not
pub printed : {O : Type 0} (text : List ℕ) (out : Seen SinkState O) {r : Report} → Prints text out r → (r.status ≡ 6 → Rose out.before.faults out.after.faults) → (r.status ≢ 6 → out.after.faults ≡ out.before.faults) → HasCauses (only_out out) r
printed text out (inl e) rose still = let is = e.0.0 in own (inl is) (record { files = refl; input = refl; out = still (λ k. omega (arith, is, k)); wire = refl })
printed text out (inr (inl e)) rose still = at_out e.0.0 (rose e.0.0) refl refl refl
printed text out (inr (inr e)) rose still = let is = e.0.0 in no_memory is (record { files = refl; input = refl; out = still (λ k. omega (arith, is, k)); wire = refl })

-- the folder counted a fault, or the end is not of the folder
pub record AtFile {F : Type 0} (folder : Seen FolderState F) (r : Report) : Type 0 where
  pub status : (r.status ≡ 3) ⊎ (r.status ≡ 7) ⊎ (r.status ≡ 5) × Rose folder.before.faults folder.after.faults
  pub outcomes : r.outcomes ≡ []

pub at_file : {F : Type 0} {folder : Seen FolderState F} {r : Report} → AtFile folder r → (r.status ≢ 5 → IsSteady folder) → HasCauses (only_files folder) r
at_file {F} {folder} {r} x steady = go x.status
  where
    go : (r.status ≡ 3) ⊎ (r.status ≡ 7) ⊎ (r.status ≡ 5) × Rose folder.before.faults folder.after.faults → HasCauses (only_files folder) r
    go (inl e) = refused e (record { files = steady (λ k. omega (arith, e, k)); input = refl; out = refl; wire = refl })
    go (inr (inl e)) = no_memory e (record { files = steady (λ k. omega (arith, e, k)); input = refl; out = refl; wire = refl })
    go (inr (inr (e, rose))) = at_read e rose refl refl refl

pub at_one : {X F : Type 0} (said : List ℕ → Result X (List ℕ)) (name : List ℕ) (folder : Seen FolderState F) (r : Report) → Unopened said name folder r → AtFile folder r
at_one said name folder r (inl e) = record { status = inr (inl e.0); outcomes = e.1 }
at_one said name folder r (inr (inl e)) = record { status = inr (inl e.0); outcomes = e.1 }
at_one said name folder r (inr (inr (inl e))) = record { status = inr (inr (e.0.0, e.1)); outcomes = e.0.1 }
at_one said name folder r (inr (inr (inr e))) = record { status = inl e.0.0; outcomes = e.0.1 }

at_founded : {F : Type 0} (dims facts : List ℕ) (folder : Seen FolderState F) (r : Report) → EndsUnfounded dims facts folder r → AtFile folder r
at_founded dims facts folder r (inl e) = at_one dims_said dims folder r e.unopened
at_founded dims facts folder r (inr e) = at_one (facts_said e.0) facts folder r e.2.unopened

pub at_files : {F : Type 0} (cube : CubeFiles) (folder : Seen FolderState F) (r : Report) → EndsUnopened cube folder r → AtFile folder r
at_files cube folder r (inl e) = at_founded cube.dims cube.facts folder r e
at_files cube folder r (inr e) = at_one (policy_said e.0.dims) cube.policy folder r e.2.unopened

at_group : {F : Type 0} (s : Dims) (earlier : List (List ℕ)) (fs : List GroupFile) (folder : Seen FolderState F) (r : Report) → EndsAtOne s earlier fs folder r → AtFile folder r
at_group s earlier [] folder r e = record { status = inr (inl e.0.0); outcomes = e.0.1 }
at_group s earlier (f ∷ fs) folder r (inl e) = at_one (group_policy_said s f.name) f.policy folder r e.unopened
at_group s earlier (f ∷ fs) folder r (inr e) = at_group s (earlier ++ f.policy ∷ []) fs folder r e.1

at_rules : {F : Type 0} (s : Dims) (earlier : List (List ℕ)) (rules : Rules) (folder : Seen FolderState F) (r : Report) → EndsAtRules s earlier rules folder r → AtFile folder r
at_rules s earlier (One policy) folder r e = at_group s earlier (one_group policy) folder r e
at_rules s earlier (Groups name) folder r (inl e) = at_one groups_said name folder r e.unopened
at_rules s earlier (Groups name) folder r (inr (fs, says, e)) = at_group s (earlier ++ name ∷ []) fs folder r e

pub at_ruled : {F : Type 0} (cube : RuledFiles) (folder : Seen FolderState F) (r : Report) → EndsUnruled cube folder r → AtFile folder r
at_ruled cube folder r (inl e) = at_founded cube.dims cube.facts folder r e
at_ruled cube folder r (inr e) = at_rules e.0.dims (cube.dims ∷ cube.facts ∷ []) cube.rules folder r e.2
