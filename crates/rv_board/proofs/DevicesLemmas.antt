-- What the devices make of a load or a store, by what the code does.

use Rattle.std.proofs.Common.{◌≡◌, ◌≢◌, inl, inr, ℕ, zero, suc, ◌%◌, ◌<◌, ◌≤◌, Bool, true, false, List, [], ◌∷◌, ◌++◌, length, take, Option, refl, sym, ap, ◌∙◌, arith}
use Rattle.std.specs.Prelude.{if◌then◌else◌, MatchBool, slice_index}
use Rattle.std.specs.Io.KnownBytes.{Consumes, Keeps}
use Rattle.std.proofs.lemmas.List.{append-nil}
use Rattle.rv_isa_laws.specs.Memory.{Mem}
use Rattle.rv_isa_laws.specs.Hart as laws
use Rattle.rv_isa_laws.specs.Effect.{Next, On}
use Rattle.rv_machine.specs.declared.action.Load.{Load}
use Rattle.rv_machine.specs.declared.hart.Hart.{Hart}
use Rattle.rv_machine.specs.Hart.{hart_of}
use Rattle.rv_machine.specs.StreamSteps.{input_left, HasRead}
use Rattle.rv_machine.proofs.KnownLemmas.{consumes_kept}
use Rattle.rv_board_laws.specs.Device.{Device, Serial, low_bytes, is_latched, with_no_data, received, loaded, sent, stored}
use Rattle.rv_board.specs.Answers.{next_by}

-- nothing was read
pub nothing_read : (e e' : Bool) (n n' : ℕ) (r r' : Option (List ℕ)) → e' ≡ e → n' ≡ n → Keeps r r' → HasRead (input_left e n r) (input_left e' n' r') []
nothing_read e e' n n' r r' same still kept = record { takes = consumes_kept r r' kept; none = λ is. refl; noted = inl (same, still) }

-- a take gave nothing
pub last_read : (e e' : Bool) (n n' : ℕ) (r r' : Option (List ℕ)) → e ≡ false → e' ≡ true → n' ≢ n → Consumes r r' [] → HasRead (input_left e n r) (input_left e' n' r') []
last_read e e' n n' r r' going over other took = record { takes = took; none = λ is. refl; noted = inr (going, (over, other)) }

-- a take gave a byte
pub byte_read : (e e' : Bool) (n n' : ℕ) (r r' : Option (List ℕ)) (b : ℕ) → e ≡ false → e' ≡ e → n' ≡ n → Consumes r r' (b ∷ []) → HasRead (input_left e n r) (input_left e' n' r') (b ∷ [])
byte_read e e' n n' r r' b going same still took = record {
  takes = took;
  none = λ is. absurd (let both : true ≡ false = sym is ∙ going in cc);
  noted = inl (same, still);
}

-- the front of a list of one
pub one_of : (xs : List ℕ) (n : ℕ) → length xs ≡ 1 → 0 < n → n ≤ 1 → take n xs ≡ slice_index xs 0 ∷ []
one_of [] n long some most = absurd (omega (arith, long))
one_of (x ∷ []) zero long some most = absurd (omega (arith, some))
one_of (x ∷ []) (suc zero) long some most = refl
one_of (x ∷ []) (suc (suc n)) long some most = absurd (omega (arith, most))
one_of (x ∷ y ∷ ys) n long some most = absurd (omega (arith, long))

-- what was put where it may be
pub put_as : (b t : Bool) (x y z : Mem) → b ≡ t → MatchBool b (x ≡ y) (x ≡ z) → x ≡ (if t then y else z)
put_as true t x y z same put = put ∙ ap (λ (u : Bool). if u then y else z) same
put_as false t x y z same put = put ∙ ap (λ (u : Bool). if u then y else z) same

-- a load of the data, by what stands in their place
module _ (x : Load) (size : ℕ) (h g : Hart) (m p : Mem) (a : ℕ) where
  on_both : (j k : laws.Hart) (n : Mem) → j ≡ k → p ≡ n → On k n ≡ On j p
  on_both j k n hart memory = ap (λ (i : laws.Hart). On i n) (sym hart) ∙ ap (λ (q : Mem). On j q) (sym memory)

  pub data_latched : is_latched m a ≡ true → ((input console : List ℕ) → hart_of g input console ≡ next_by x size (hart_of h input console) (low_bytes x.bytes 0)) → p ≡ m →
      (rest console : List ℕ) → loaded Serial m a x.bytes (next_by x size (hart_of h rest console)) ≡ On (hart_of g rest console) p
  data_latched is hart memory rest console =
      let next = next_by x size (hart_of h rest console) in
      ap (λ (t : Bool). if t then On (next (low_bytes x.bytes 0)) m else received rest m a x.bytes next) is
      ∙ on_both (hart_of g rest console) (next (low_bytes x.bytes 0)) m (hart rest console) memory

  pub data_byte : (b : ℕ) → is_latched m a ≡ false → ((input console : List ℕ) → hart_of g input console ≡ next_by x size (hart_of h input console) (low_bytes x.bytes b)) → p ≡ m →
      (rest console : List ℕ) → loaded Serial m a x.bytes (next_by x size (hart_of h (b ∷ rest) console)) ≡ On (hart_of g rest console) p
  data_byte b is hart memory rest console =
      let next = next_by x size (hart_of h (b ∷ rest) console) in
      ap (λ (t : Bool). if t then On (next (low_bytes x.bytes 0)) m else received (b ∷ rest) m a x.bytes next) is
      ∙ on_both (hart_of g rest console) (next_by x size (hart_of h rest console) (low_bytes x.bytes b)) m (hart rest console) memory

  pub data_none : is_latched m a ≡ false → ((input console : List ℕ) → hart_of g input console ≡ next_by x size (hart_of h input console) (low_bytes x.bytes 0)) → p ≡ with_no_data m a →
      (rest console : List ℕ) → rest ≡ [] → loaded Serial m a x.bytes (next_by x size (hart_of h rest console)) ≡ On (hart_of g rest console) p
  data_none is hart memory rest console nothing =
      let next = next_by x size (hart_of h rest console) in
      ap (λ (t : Bool). if t then On (next (low_bytes x.bytes 0)) m else received rest m a x.bytes next) is
      ∙ ap (λ (xs : List ℕ). received xs m a x.bytes next) nothing
      ∙ on_both (hart_of g rest console) (next (low_bytes x.bytes 0)) (with_no_data m a) (hart rest console) memory

  -- a load of what is always the same number, at a device that gives it
  pub number_loaded : (d : Device) (v : ℕ) → ((next : ℕ → laws.Hart) → loaded d m a x.bytes next ≡ On (next (low_bytes x.bytes v)) m) → ((input console : List ℕ) → hart_of g input console ≡ next_by x size (hart_of h input console) (low_bytes x.bytes v)) → p ≡ m →
      (k : Device) → k ≡ d → (rest console : List ℕ) → loaded k m a x.bytes (next_by x size (hart_of h rest console)) ≡ On (hart_of g rest console) p
  number_loaded d v gives hart memory k is rest console =
      let next = next_by x size (hart_of h rest console) in
      ap (λ (j : Device). loaded j m a x.bytes next) is
      ∙ gives next
      ∙ on_both (hart_of g rest console) (next (low_bytes x.bytes v)) m (hart rest console) memory

-- stores to the data
pub data_kept : (m p : Mem) (a n v : ℕ) (g : Hart) (h : List ℕ → List ℕ → laws.Hart) → is_latched m a ≡ true → ((input console : List ℕ) → hart_of g input console ≡ h input console) → p ≡ m →
    (input console : List ℕ) → stored Serial m a n v (h input console) ≡ On (hart_of g input (console ++ [])) p
data_kept m p a n v g h is hart memory input console =
    ap (λ (t : Bool). On (if t then h input console else sent (h input console) v) m) is
    ∙ ap (λ (i : laws.Hart). On i m) (sym (hart input console))
    ∙ ap (λ (q : Mem). On (hart_of g input console) q) (sym memory)
    ∙ ap (λ (xs : List ℕ). On (hart_of g input xs) p) (sym (append-nil console))

pub data_sent : (m p : Mem) (a n v b : ℕ) (g : Hart) (h : List ℕ → List ℕ → laws.Hart) → is_latched m a ≡ false → b ≡ v % 256 → ((input console : List ℕ) → hart_of g input console ≡ h input console) →
    ((input console : List ℕ) → (h input console).console ≡ console) → ((input console more : List ℕ) → record (h input console) { console = more } ≡ h input more) → p ≡ m →
    (input console : List ℕ) → stored Serial m a n v (h input console) ≡ On (hart_of g input (console ++ (b ∷ []))) p
data_sent m p a n v b g h is byte hart at_console moved memory input console =
    ap (λ (t : Bool). On (if t then h input console else sent (h input console) v) m) is
    ∙ ap (λ (xs : List ℕ). On (record (h input console) { console = xs ++ (v % 256 ∷ []) }) m) (at_console input console)
    ∙ ap (λ (i : laws.Hart). On i m) (moved input console (console ++ (v % 256 ∷ [])))
    ∙ ap (λ (k : ℕ). On (h input (console ++ (k ∷ []))) m) (sym byte)
    ∙ ap (λ (i : laws.Hart). On i m) (sym (hart input (console ++ (b ∷ []))))
    ∙ ap (λ (q : Mem). On (hart_of g input (console ++ (b ∷ []))) q) (sym memory)

-- a store that a device takes no notice of
pub store_unseen : (x : Next) (m p : Mem) (g : Hart) (h : List ℕ → List ℕ → laws.Hart) (input console : List ℕ) → x ≡ On (h input console) m → hart_of g input console ≡ h input console → p ≡ m → x ≡ On (hart_of g input (console ++ [])) p
store_unseen x m p g h input console is hart memory =
    is
    ∙ ap (λ (i : laws.Hart). On i m) (sym hart)
    ∙ ap (λ (q : Mem). On (hart_of g input console) q) (sym memory)
    ∙ ap (λ (xs : List ℕ). On (hart_of g input xs) p) (sym (append-nil console))
