-- Whenever memory holds a program, the run of the machine over it agrees with the run of the sources.

use Rattle.std.proofs.Common.{◌≡◌, ◌⊎◌, inl, inr, ℕ, zero, suc, ◌+◌, ◌-◌, ◌%◌, ◌^◌, ◌<◌, ◌≤◌, Bool, true, false, List, ◌∷◌, length, get_or, replicate, Option, Some, None, refl, sym, ap, ◌∙◌, subst, arith}
use Rattle.std.specs.Prelude.{◌&&◌, ◌==◌, nat_lt, nat_le, if◌then◌else◌}
use Rattle.std.specs.List.{AllByRecursion}
use Rattle.std.proofs.lemmas.Bool.{cases_Bool, and_parts, ltb-true, eqb-true, leb-true, leb-false, le-leb}
use Rattle.std.proofs.lemmas.List.{length-set}
use Rattle.rv_list_laws.proofs.FindLemmas.{find_test}
use Rattle.rv_isa.specs.declared.instruction.Inst.{Inst}
use Rattle.rv_isa_laws.specs.Memory.{Mem, Right, Write, Execute}
use Rattle.rv_isa_laws.specs.Hart.{Hart, Outcome, Limit, stop, start, register}
use Rattle.rv_isa_laws.specs.Effect.{Next, On, Over, follow}
use Rattle.rv_isa_laws.specs.Kept.{GoesOn, InRange}
use Rattle.rv_isa_laws.specs.Reader.{Reader}
use Rattle.rv_isa_laws.specs.Run.{NoInstruction, run, machine_run}
use Rattle.rv_board_laws.specs.Device.{Device, Plain, apply_on, done_on, run_on}
use Rattle.rv_board_laws.specs.Platform.{Platform, stack_alone, start_on}
use Rattle.rv_board_laws.proofs.BesideLemmas.{plain_apply, plain_run}
use Rattle.rv_board_laws.proofs.BehindLemmas.{run_on_adds}
use Rattle.rv_statement_laws.specs.Statement.{Statement}
use Rattle.rv_map_laws.specs.Map.{Map}
use Rattle.rv_source_laws.specs.Program.{Mapped, Program, program}
use Rattle.rv_source_laws.specs.Meaning.{meaning, cost}
use Rattle.rv_source_laws.specs.Start.{is_in, first_memory}
use Rattle.rv_source_laws.specs.SourceRun.{Place, Starts, Inside, Gap, Outside, starts_or_inside, found, place, step_at, cost_at, steps, source_run}
use Rattle.rv_chain_laws.specs.PlatformRun.{first_memory_on, step_at_on, steps_on, source_run_on}
use Rattle.rv_chain_laws.specs.Realizes.{RealizesFrom, Realizes, RealizesOn, HoldsLines, StandsIn}
use Rattle.rv_chain_laws.specs.Agrees.{Agrees}
use Rattle.rv_chain_laws.specs.Walks.{Walked, Ready, Does}
use Rattle.rv_runs_theorems.proofs.EvenLemmas.{IsEven}
use Rattle.rv_runs_theorems.proofs.AlikeLemmas.{Beside, Alike, apply_alike}
use Rattle.rv_runs_theorems.proofs.OnwardLemmas.{OnNext, IsAnswer, IsKept, next_keeps, both_goes}
use Rattle.rv_runs_theorems.proofs.FetchLemmas.{Text, no_right, fetched}
use Rattle.rv_runs_theorems.proofs.WalkLemmas.{Steady, short_lines, walk_one, walk_steady, walk_runs, walk_limits}
use Rattle.rv_runs_theorems.proofs.ObligationsLemmas.{does}
use Rattle.rv_isa_laws.proofs.EffectLawsLemmas.{below_set}

-- a hart as it is on the way of a run: 32 registers in range, and an even address
pub record IsGood (g : Hart) : Type 0 where
  pub pc : g.pc < 2 ^ 64
  pub even : IsEven g
  pub whole : length g.registers ≡ 32
  pub inside : InRange g

answered : (g : Hart) (value : ℕ) → InRange g → IsAnswer g value → value < 2 ^ 64
answered g value all (inl le) = let below : register g 12 < 2 ^ 64 = all 12 in omega arith
answered g value all (inr below) = below

good_kept : IsKept IsGood
good_kept = record {
  answers = λ g value small f. record { pc = f.pc; even = f.even; whole = length-set g.registers 10 value ∙ f.whole; inside = below_set g.registers 10 value (answered g value f.inside small) f.inside };
  takes = λ g input f. record { pc = f.pc; even = f.even; whole = f.whole; inside = f.inside };
  writes = λ g bytes f. record { pc = f.pc; even = f.even; whole = f.whole; inside = f.inside };
}

zeros_below : (n k : ℕ) → get_or (replicate n 0) k 0 < 2 ^ 64
zeros_below zero k = omega arith
zeros_below (suc n) zero = omega arith
zeros_below (suc n) (suc k) = zeros_below n k

good_start : (q : Platform) (entry : ℕ) (input : List ℕ) → q.top < 2 ^ 64 → entry < 2 ^ 64 → entry % 2 ≡ 0 → IsGood (start_on q entry input)
good_start q entry input top below even = record {
  pc = below;
  even = even;
  whole = length-set (replicate 32 0) 2 q.top;
  inside = below_set (replicate 32 0) 2 q.top top (zeros_below 32);
}

-- what a place is by its tests
starts_of : (t g : Bool) (o : Option Mapped) (s : Mapped) → (if t then (if g then Gap else starts_or_inside o) else Outside) ≡ Starts s → o ≡ Some s
starts_of true true o s e = absurd (cc)
starts_of true false (Some k) s e = cc
starts_of true false None s e = absurd (cc)
starts_of false g o s e = absurd (cc)

agree_if : (b : Bool) (x y o : Outcome) → b ≡ true → Agrees x o → Agrees (if b then x else y) o
agree_if true x y o e a = a
agree_if false x y o e a = absurd (cc)

module _ {Spells StandsFor : ℕ → Inst → Type 0} (reader : Reader Spells StandsFor) where
  module _ (d : ℕ → Device) (p : Program) (first from : Mem) (r : RealizesFrom reader first from p) where
    abbrev Follows : Mem → Mem → Type 0
    Follows m s = Beside from.has first m s

    executes : (a : ℕ) → a < 2 ^ 64 → first.has a Execute ≡ from.has a Execute
    executes a u = r.rights a u Execute

    -- with at most `most` steps the runs agree from wherever they are beside one another
    abbrev AgreeWithin : ℕ → Type 0
    AgreeWithin most = (left : ℕ) → left ≤ most → (h : Hart) (m s : Mem) → Follows m s → IsGood h → Agrees (steps_on d most p left h s) (run_on d reader left h m)

    text_of : (m s : Mem) → Follows m s → Text from.has first m
    text_of m s b = record { rights = λ a u. b.machine a u Execute; kept = b.kept }

    abbrev turn : ℕ → Place → ℕ → Hart → Mem → Outcome
    turn most here left h s =
        if nat_le (cost_at p here h) left
        then follow (step_at_on d p here h s) h (steps_on d most p (left - cost_at p here h))
        else stop h Limit

    one_left : (left : ℕ) → nat_le 1 (suc left) ≡ true
    one_left left = le-leb 1 (suc left) (omega arith)

    outside_turn : (most left : ℕ) (h : Hart) (m s : Mem) → Follows m s → h.pc < 2 ^ 64 → place p h.pc ≡ Outside → Agrees (turn most Outside left h s) (run_on d reader left h m)
    outside_turn most zero h m s b pc e = inl refl
    outside_turn most (suc left) h m s b pc e =
        let none : from.has h.pc Execute ≡ false = r.outside h.pc pc e in
        let low : h.pc % 2 ^ 64 ≡ h.pc = omega arith in
        let f = no_right reader from.has first executes m (λ a u. b.machine a u Execute) h.pc (subst (λ a. from.has a Execute ≡ false) (sym low) none) in
        agree_if (nat_le 1 (suc left)) _ _ _ (one_left left) (inl (sym (ap (λ x. follow (done_on d x h m) h (run_on d reader left)) f)))

    gap_turn : (most left : ℕ) (h : Hart) (m s : Mem) → Follows m s → h.pc < 2 ^ 64 → IsEven h → place p h.pc ≡ Gap → Agrees (turn most Gap left h s) (run_on d reader left h m)
    gap_turn most zero h m s b pc even e = inl refl
    gap_turn most (suc left) h m s b pc even e =
        let f = fetched reader from.has first executes m (text_of m s b) h.pc NoInstruction (λ k. cc) (r.gaps h.pc pc even e) in
        agree_if (nat_le 1 (suc left)) _ _ _ (one_left left) (inl (sym (ap (λ x. follow (done_on d x h m) h (run_on d reader left)) f)))

    inside_turn : (most left : ℕ) (h : Hart) (m s : Mem) → Agrees (turn most Inside left h s) (run_on d reader left h m)
    inside_turn most zero h m s = inl refl
    inside_turn most (suc left) h m s = agree_if (nat_le 1 (suc left)) _ _ _ (one_left left) (inr (refl, run_on_adds d reader (suc left) h m))

    follow_alike : (most left : ℕ) → left ≤ most → AgreeWithin most → (h : Hart) (x y : Next) → Alike from.has first x y → OnNext IsGood x → Agrees (follow y h (steps_on d most p left)) (follow x h (run_on d reader left))
    follow_alike most left le ih h (On g m) (On k s) a good =
        subst (λ q. Agrees (steps_on d most p left q s) (run_on d reader left g m)) a.0 (ih left le g m s a.1 good)
    follow_alike most left le ih h (On g m) (Over f) a good = absurd a
    follow_alike most left le ih h (Over e) (On k s) a good = absurd a
    follow_alike most left le ih h (Over e) (Over f) a good = inl (ap (λ q. stop h q) (sym a))

    -- a statement whose lines stand in memory
    starts_turn : (most left : ℕ) → left ≤ suc most → AgreeWithin most → (h : Hart) (m s : Mem) → Follows m s → IsGood h → (site : Mapped) → 0 < site.row.bytes → site.row.address ≡ h.pc → (holds : HoldsLines reader first p site) → Does (meaning p site) (cost p site) site.row.address holds.lines → Agrees (turn most (Starts site) left h s) (run_on d reader left h m)
    starts_turn most left le ih h m s b fine site some at holds comes = by (cases_Bool (nat_le (cost p site h) left))
      where
        stand : AllByRecursion (StandsIn reader first) (comes.first ∷ comes.others)
        stand = subst (λ l. AllByRecursion (StandsIn reader first) l) comes.are holds.stand

        pc : h.pc ≡ comes.first.address
        pc = sym at ∙ sym comes.starts

        even : IsEven h
        even = fine.even

        ready : Ready site.row.address h
        ready = record { at = sym at; whole = fine.whole; inside = fine.inside; even = even }

        good : OnNext IsGood (apply_on d (meaning p site h) m)
        good =
            next_keeps IsGood good_kept d (meaning p site h) m
            (both_goes (Steady h) (Steady h) IsGood (λ g k l. record { pc = k.pc; even = k.even; whole = k.whole ∙ fine.whole; inside = k.inside fine.inside }) (meaning p site h)
            (subst (λ w. GoesOn (Steady h) w.effect) (comes.walks h ready) (walk_steady reader from.has first executes comes.others comes.first h stand even))
            (subst (λ w. GoesOn (Steady h) w.effect) (comes.walks h ready) (walk_steady reader from.has first executes comes.others comes.first h stand even)))

        by : (nat_le (cost p site h) left ≡ true) ⊎ (nat_le (cost p site h) left ≡ false) → Agrees (turn most (Starts site) left h s) (run_on d reader left h m)
        by (inl enough) =
            let c = cost p site h in
            let le' : c ≤ left = leb-true c left enough in
            let one : 1 ≤ c = subst (λ (w : Walked). 1 ≤ w.count) (comes.walks h ready) (walk_one comes.first comes.others h) in
            let whole : left ≡ c + (left - c) = omega arith in
            let runs = subst (λ (w : Walked). run_on d reader (w.count + (left - c)) h m ≡ follow (apply_on d w.effect m) h (run_on d reader (left - c))) (comes.walks h ready) (walk_runs reader from.has first executes d m (text_of m s b) comes.others comes.first h stand pc even (left - c)) in
            let machine : run_on d reader left h m ≡ follow (apply_on d (meaning p site h) m) h (run_on d reader (left - c)) = ap (λ k. run_on d reader k h m) whole ∙ runs in
            agree_if (nat_le c left) _ _ _ enough
            (subst (λ o. Agrees (follow (apply_on d (meaning p site h) s) h (steps_on d most p (left - c))) o) (sym machine)
            (follow_alike most (left - c) (omega arith) ih h (apply_on d (meaning p site h) m) (apply_on d (meaning p site h) s)
            (apply_alike from.has r.fixed first d (meaning p site h) m s b) good))
        by (inr short) =
            let c = cost p site h in
            let lt : left < c = leb-false c left short in
            let limits = subst (λ (w : Walked). left < w.count → run_on d reader left h m ≡ stop h Limit) (comes.walks h ready) (walk_limits reader from.has first executes d m (text_of m s b) comes.others comes.first h stand pc even left) in
            inl (ap (λ t. if t then follow (step_at_on d p (Starts site) h s) h (steps_on d most p (left - c)) else stop h Limit) short ∙ sym (limits lt))

    any_turn : (most left : ℕ) → left ≤ suc most → AgreeWithin most → (h : Hart) (m s : Mem) → Follows m s → IsGood h → (here : Place) → place p h.pc ≡ here → Agrees (turn most here left h s) (run_on d reader left h m)
    any_turn most left le ih h m s b fine Outside e = outside_turn most left h m s b fine.pc e
    any_turn most left le ih h m s b fine Gap e = gap_turn most left h m s b fine.pc fine.even e
    any_turn most left le ih h m s b fine Inside e = inside_turn most left h m s
    any_turn most left le ih h m s b fine (Starts site) e =
        let test = find_test (λ (k : Mapped). nat_lt 0 k.row.bytes && (k.row.address == h.pc)) p.mapped site (starts_of (is_in p.map.text h.pc) _ (found p.mapped h.pc) site e) in
        let parts = and_parts (nat_lt 0 site.row.bytes) (site.row.address == h.pc) test in
        let some : 0 < site.row.bytes = ltb-true 0 site.row.bytes parts.0 in
        let holds = r.rows h.pc site fine.pc e in
        starts_turn most left le ih h m s b fine site some (eqb-true site.row.address h.pc parts.1) holds
        (does p site holds.lines (record {
          are_lines = holds.are_lines;
          fits = holds.fits;
          row = holds.row;
          short = short_lines reader first holds.lines holds.stand;
          some = some;
          below = holds.below;
        }))

    pub simulates : (most : ℕ) → AgreeWithin most
    simulates zero zero le h m s b fine = inl refl
    simulates zero (suc left) le h m s b fine = absurd (omega arith)
    simulates (suc most) left le h m s b fine = any_turn most left le (simulates most) h m s b fine (place p h.pc) refl

-- ---- two memories of the source run

module _ (d : ℕ → Device) (p : Program) (has : ℕ → Right → Bool) (fixed : (a : ℕ) → a < 2 ^ 64 → has a Execute ≡ true → has a Write ≡ false) (first : Mem) where
  step_same : (here : Place) (h : Hart) (m s : Mem) → Beside has first m s → Alike has first (step_at_on d p here h m) (step_at_on d p here h s)
  step_same (Starts site) h m s beside = apply_alike has fixed first d (meaning p site h) m s beside
  step_same Inside h m s beside = refl
  step_same Gap h m s beside = refl
  step_same Outside h m s beside = refl

  go_same : (go : Hart → Mem → Outcome) → ((g : Hart) (m s : Mem) → Beside has first m s → go g m ≡ go g s) → (h : Hart) (x y : Next) → Alike has first x y → follow x h go ≡ follow y h go
  go_same go same h (On g m) (On k s) a = same g m s a.1 ∙ ap (λ f. go f s) a.0
  go_same go same h (On g m) (Over f) a = absurd a
  go_same go same h (Over e) (On k s) a = absurd a
  go_same go same h (Over e) (Over f) a = ap (λ e. stop h e) a

  -- memories beside one another give the same run
  pub steps_same : (most left : ℕ) (h : Hart) (m s : Mem) → Beside has first m s → steps_on d most p left h m ≡ steps_on d most p left h s
  steps_same zero left h m s beside = refl
  steps_same (suc most) left h m s beside =
      let here = place p h.pc in
      let c : ℕ = cost_at p here h in
      ap (λ o. if nat_le c left then o else stop h Limit)
      (go_same (steps_on d most p (left - c)) (steps_same most (left - c)) h (step_at_on d p here h m) (step_at_on d p here h s) (step_same here h m s beside))

-- ---- without devices

plain_step_at : (p : Program) (here : Place) (h : Hart) (m : Mem) → step_at_on (λ a. Plain) p here h m ≡ step_at p here h m
plain_step_at p (Starts site) h m = plain_apply (meaning p site h) m
plain_step_at p Inside h m = refl
plain_step_at p Gap h m = refl
plain_step_at p Outside h m = refl

plain_turn : (most left : ℕ) (p : Program) (x : Next) (h : Hart) → ((g : Hart) (k : Mem) → steps_on (λ a. Plain) most p left g k ≡ steps most p left g k)
    → follow x h (steps_on (λ a. Plain) most p left) ≡ follow x h (steps most p left)
plain_turn most left p (On g k) h same = same g k
plain_turn most left p (Over e) h same = refl

pub plain_steps : (most : ℕ) (p : Program) (left : ℕ) (h : Hart) (m : Mem) → steps_on (λ a. Plain) most p left h m ≡ steps most p left h m
plain_steps zero p left h m = refl
plain_steps (suc most) p left h m =
    let here = place p h.pc in
    let c : ℕ = cost_at p here h in
    ap (λ x. if nat_le c left then follow x h (steps_on (λ a. Plain) most p (left - c)) else stop h Limit) (plain_step_at p here h m)
    ∙ ap (λ o. if nat_le c left then o else stop h Limit) (plain_turn most (left - c) p (step_at p here h m) h (plain_steps most p (left - c)))

-- ---- the laws

-- from any memory of the source run on, with any devices
agree_from : {Spells StandsFor : ℕ → Inst → Type 0} (reader : Reader Spells StandsFor) (q : Platform) (m s : Mem) (p : Program) → RealizesFrom reader m s p → q.top < 2 ^ 64 → (entry : ℕ) → entry < 2 ^ 64 → entry % 2 ≡ 0 → (input : List ℕ) (n : ℕ)
    → Agrees (steps_on q.device n p n (start_on q entry input) s) (run_on q.device reader n (start_on q entry input) m)
agree_from reader q m s p r top entry below even input n =
    simulates reader q.device p m s r n n (omega arith) (start_on q entry input) m s
    (record { machine = r.rights; source = λ a less right. refl; read = r.bytes; kept = λ a less runs. refl })
    (good_start q entry input top below even)

pub agreement : {Spells StandsFor : ℕ → Inst → Type 0} (reader : Reader Spells StandsFor) (m : Mem) (sources : List (List Statement)) (map : Map) → Realizes reader m (program sources map) → map.entry < 2 ^ 64 → map.entry % 2 ≡ 0 → (input : List ℕ) (n : ℕ) → Agrees (source_run sources map input n) (machine_run reader m map.entry input n)
agreement reader m sources map r below even input n =
    let p = program sources map in
    let h = start map.entry input in
    subst (λ o. Agrees o (run reader n h m)) (plain_steps n p n h (first_memory p))
    (subst (λ o. Agrees (steps_on (λ a. Plain) n p n h (first_memory p)) o) (plain_run reader n h m)
    (agree_from reader stack_alone m (first_memory p) p r (omega arith) map.entry below even input n))

pub agreement_on : {Spells StandsFor : ℕ → Inst → Type 0} (q : Platform) (reader : Reader Spells StandsFor) (m : Mem) (sources : List (List Statement)) (map : Map) → RealizesOn q reader m (program sources map) → q.top < 2 ^ 64 → map.entry < 2 ^ 64 → map.entry % 2 ≡ 0 → (input : List ℕ) (n : ℕ) → Agrees (source_run_on q sources map input n) (run_on q.device reader n (start_on q map.entry input) m)
agreement_on q reader m sources map r top below even input n =
    agree_from reader q m (first_memory_on q (program sources map)) (program sources map) r top map.entry below even input n

-- an image that holds the program for every reading of it, with the map's entry
pub agreement_of_image : {Spells StandsFor : ℕ → Inst → Type 0} (sources : List (List Statement)) (map : Map) (m : Mem) (entry : ℕ) → ((reader : Reader Spells StandsFor) → Realizes reader m (program sources map)) → entry ≡ map.entry → map.entry < 2 ^ 64 → map.entry % 2 ≡ 0 → (reader : Reader Spells StandsFor) (input : List ℕ) (n : ℕ) → Agrees (source_run sources map input n) (machine_run reader m entry input n)
agreement_of_image sources map m entry realizes same below even reader input n =
    subst (λ e. Agrees (source_run sources map input n) (machine_run reader m e input n)) (sym same) (agreement reader m sources map (realizes reader) below even input n)
