-- Going on from a state of a run leads to another.

use Rattle.std.proofs.Common.{◌≡◌, ◌≢◌, ℕ, ◌+◌, ◌-◌, ◌%◌, ◌^◌, ◌<◌, ◌≤◌, Bool, true, false, List, [], ◌∷◌, ◌++◌, length, drop, Option, Some, None, refl, sym, ap, ◌∙◌, subst, inl, inr, arith}
use Rattle.std.specs.Prelude.{Ok}
use Rattle.std.proofs.lemmas.List.{length-append}
use Rattle.rv_list_laws.proofs.TakeDropLemmas.{drop_front}
use Rattle.rv_isa_laws.specs.Word.{Spells}
use Rattle.rv_parcel.specs.Parcel.{StandsFor}
use Rattle.rv_isa_laws.specs.Memory.{Mem}
use Rattle.rv_isa_laws.specs.Hart as laws
use Rattle.rv_isa_laws.specs.Reader.{Reader}
use Rattle.rv_isa_laws.specs.Run.{run}
use Rattle.rv_event_laws.specs.Event.{Event, events}
use Rattle.rv_machine.specs.declared.end.End.{End}
use Rattle.rv_machine.specs.declared.end.End.TheVariants.{Exited, Limit, Breakpoint, Illegal, FetchOutside, LoadText, LoadOutside, StoreText, StoreOutside, MisalignedAtomic}
use Rattle.rv_machine.specs.End.{law_end}
use Rattle.rv_machine.specs.declared.hart.Hart.{Hart}
use Rattle.rv_machine.specs.Hart.{hart_of}
use Rattle.rv_machine.specs.LastState.{last_state}
use Rattle.rv_machine.specs.Streams.{MayFollow}
use Rattle.rv_machine.specs.StreamSteps.{input_left, HasRead}
use Rattle.rv_machine.specs.Watching.{Shows}
use Rattle.rv_states.specs.Replayed.{quiet_state, IsStateAt, IsStill, is_limit}
use Rattle.rv_states.proofs.QuietLemmas.{last_quiet, last_more, last_over, events_short}

none_left : (xs ys : List ℕ) → [] ≡ xs ++ ys → ys ≡ []
none_left [] ys is = sym is
none_left (x ∷ xs) ys is = absurd (cc)

-- at the start
at_start : (m : Mem) (entry : ℕ) (input : List ℕ) (hart : Hart) (memory : Mem) (ended : Bool) → ((xs : List ℕ) → hart_of hart xs [] ≡ laws.start entry xs) → memory ≡ m → ended ≡ false →
    IsStateAt m entry input 0 hart memory ended (drop 0 input)
at_start m entry input hart memory ended starts same going = record {
  state = λ r.
      let pair : laws.Hart → Mem → laws.Hart × Mem = λ h n. (h, n) in
      ap (λ (h : laws.Hart). pair h m) (sym (starts input)) ∙ ap (λ (n : Mem). pair (hart_of hart input []) n) (sym same);
  dry = λ is. absurd (cc);
}

pub begun : (m : Mem) (entry : ℕ) (input : List ℕ) (hart : Hart) (memory : Mem) (ended : Bool) → ((xs : List ℕ) → hart_of hart xs [] ≡ laws.start entry xs) → memory ≡ m → ended ≡ false → (more : ℕ) → more ≡ 0 →
    IsStateAt m entry input (0 + more) hart memory ended (drop 0 input)
begun m entry input hart memory ended starts same going more none =
    let count : 0 ≡ 0 + more = omega (arith, none) in
    subst (λ (n : ℕ). IsStateAt m entry input n hart memory ended (drop 0 input)) count (at_start m entry input hart memory ended starts same going)

no_limit : (e : End) → is_limit e ≡ false → law_end e ≢ laws.Limit
no_limit Limit is = absurd (cc)
no_limit (Exited _) is = λ same. absurd (cc)
no_limit Breakpoint is = λ same. absurd (cc)
no_limit (Illegal _) is = λ same. absurd (cc)
no_limit (FetchOutside _) is = λ same. absurd (cc)
no_limit (LoadText _) is = λ same. absurd (cc)
no_limit (LoadOutside _) is = λ same. absurd (cc)
no_limit (StoreText _) is = λ same. absurd (cc)
no_limit (StoreOutside _) is = λ same. absurd (cc)
no_limit (MisalignedAtomic _) is = λ same. absurd (cc)

-- and from there on
module _ (m : Mem) (entry : ℕ) (input : List ℕ) (n k : ℕ) (hart hart' : Hart) (memory memory' : Mem) (ended ended' : Bool) (before after read written : List ℕ) (told : List Event) (first ends : ℕ) (e : End) (zero_first : first ≡ 0)
    (at : IsStateAt m entry input n hart memory ended before)
    (reads : HasRead (input_left ended first (Some before)) (input_left ended' ends (Some after)) read)
    (dry : 0 < ends → length after ≡ 0)
    (shows : (r : Reader Spells StandsFor) (rest : List ℕ) → MayFollow (ended' ≡ false) rest → Shows (Ok e) written told (hart_of hart' rest written, memory') r k (hart_of hart (read ++ rest) []) memory) where
  none : (xs : List ℕ) → length xs ≡ 0 → xs ≡ []
  none [] is = refl
  none (x ∷ xs) is = absurd (omega arith)

  dry_after : ended' ≡ true → after ≡ []
  dry_after is =
      elim reads.noted [
        | inl same ↦
            let old : ended ≡ true = sym same.0 ∙ is in
            none_left read after (sym (at.dry old) ∙ reads.takes)
        | inr new ↦
            let some : 0 < ends = omega (arith, new.1.1, zero_first) in
            none after (dry some)
      ]

  may : (b : Bool) → ended' ≡ b → MayFollow (ended' ≡ false) after
  may true is = inl (dry_after is)
  may false is = inr is

  shown : (r : Reader Spells StandsFor) → Shows (Ok e) written told (hart_of hart' after written, memory') r k (hart_of hart (read ++ after) []) memory
  shown r = shows r after (may ended' refl)

  goes_by : (j : ℕ) → ((r : Reader Spells StandsFor) → last_state r j (hart_of hart (read ++ after) []) memory ≡ last_state r k (hart_of hart (read ++ after) []) memory) → IsStateAt m entry input (n + j) hart' memory' ended' after
  goes_by j same = record {
    state = λ r.
        let so_far : laws.Hart × Mem = last_state r n (laws.start entry input) m in
        let quietly : laws.Hart × Mem → laws.Hart × Mem = λ s. quiet_state (last_state r j s.0 s.1) in
        ap quiet_state (last_more r n j (laws.start entry input) m)
        ∙ last_quiet r j so_far.0 so_far.1
        ∙ ap quietly (at.state r)
        ∙ ap (λ (xs : List ℕ). quietly (hart_of hart xs [], memory)) reads.takes
        ∙ ap quiet_state (same r ∙ (shown r).1);
    dry = dry_after;
  }

  goes_over : law_end e ≢ laws.Limit → k < 2 ^ 64 → (counted steps more : ℕ) → counted ≡ length told % 2 ^ 64 → (counted ≤ k → steps ≡ counted) → IsStateAt m entry input (n + steps + more) hart' memory' ended' after
  goes_over ends fits counted steps more counts least =
      let same : n + (steps + more) ≡ n + steps + more = omega arith in
      let stays : (r : Reader Spells StandsFor) → last_state r (steps + more) (hart_of hart (read ++ after) []) memory ≡ last_state r k (hart_of hart (read ++ after) []) memory = λ r.
      let begun = hart_of hart (read ++ after) [] in
      let ended = λ (is : (run r k begun memory).«end» ≡ laws.Limit). ends (sym (ap (λ (o : laws.Outcome). o.«end») (shown r).0) ∙ is) in
      let short = events_short r k begun memory in
      let told_all : length (events r k begun memory) ≡ length told = ap length (shown r).2 in
      let within : counted ≤ k = omega (arith, short, told_all, counts, fits) in
      last_over r k (steps + more) begun memory ended (omega (arith, short, told_all, counts, fits, least within)) in
      subst (λ (j : ℕ). IsStateAt m entry input j hart' memory' ended' after) same (goes_by (steps + more) stays)

  -- to the limit, or to an end, behind which it stays as it is
  pub goes_on : (limited : Bool) → is_limit e ≡ limited → k < 2 ^ 64 → (counted steps more : ℕ) → counted ≡ length told % 2 ^ 64 → (is_limit e ≡ true → steps + more ≡ k) → (is_limit e ≡ false → counted ≤ k → steps ≡ counted) →
      IsStateAt m entry input (n + steps + more) hart' memory' ended' after
  goes_on true is fits counted steps more counts whole least =
      let same : n + k ≡ n + steps + more = omega (arith, whole is) in
      subst (λ (j : ℕ). IsStateAt m entry input j hart' memory' ended' after) same (goes_by k (λ r. refl))
  goes_on false is fits counted steps more counts whole least = goes_over (no_limit e is) fits counted steps more counts (least is)

-- what is left of the input
pub left_of : (before after read : List ℕ) → before ≡ read ++ after → drop (length before - length after) before ≡ after
left_of before after read parts =
    let count : length before - length after ≡ length read = omega (arith, ap length parts, length-append read after) in
    ap (λ (n : ℕ). drop n before) count ∙ ap (λ (xs : List ℕ). drop (length read) xs) parts ∙ drop_front read after

pub left_short : (before after read : List ℕ) → before ≡ read ++ after → length after ≤ length before
left_short before after read parts = omega (arith, ap length parts, length-append read after)

-- no steps more leave any state as it is
pub still : (last : Option End) (n : ℕ) → (last ≡ None → n ≡ 0) → IsStill last n
still None n none = none refl
still (Some _) n none = tt
