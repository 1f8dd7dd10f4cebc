use Rattle.std.proofs.Common.{◌≡◌, inl, inr, [], ◌∷◌, List, ℕ, Bool, true, false, refl, sym, ap, subst, ◌∙◌, Option, Some, None}
use Rattle.std.specs.Prelude.{MatchOption}
use Rattle.std.proofs.KnownBytes.{Keeps-refl}
use Rattle.rv_isa_laws.specs.Meaning.{with_result}
use Rattle.rv_machine.specs.declared.hart.Hart.{Hart}
use Rattle.rv_machine.specs.Hart.{hart_of}
use Rattle.rv_machine.specs.Request.{answered}
use Rattle.rv_machine.specs.Streams.{MayFollow}
use Rattle.rv_machine.specs.StreamSteps.{Input, input_left, HasRead}
use Rattle.rv_board_laws.specs.Device.{is_latched, with_no_data}
use Rattle.rv_board.proofs.DevicesLemmas.{nothing_read, data_latched, data_byte, data_none}
use Rattle.rv_board.proofs.answering.receive.Goals as goal

nothing_follows : (e : Bool) (rest : List ℕ) → e ≡ true → MayFollow (e ≡ false) rest → rest ≡ []
nothing_follows e rest is (inl nothing) = nothing
nothing_follows e rest is (inr going) = absurd (let both : true ≡ false = sym is ∙ going in cc)

pub returns-then-is_latched-clause-read : goal.returns-then-is_latched-clause-read
returns-then-is_latched-clause-read g c =
    let m = g.M.Memory.mem c.args.machine.now.memory in
    let is : is_latched m 0x1000_0000 ≡ true = ap (λ k. is_latched (g.M.Memory.mem k) 0x1000_0000) (sym c.memory.ensures) ∙ sym c.is_latched.ensures ∙ c.if-is_latched.true in (
      [],
      nothing_read _ _ _ _ _ _ c.answer_load.ensures.ended refl (Keeps-refl _),
      λ rest console may. data_latched c.args.load c.args.length c.args.machine.now.hart c.answer_load.new.self.hart m _ 0x1000_0000 is c.answer_load.ensures.hart c.answer_load.ensures.memory rest console,
    )

some_of : (P : Type 0) (Q : ℕ → Type 0) (o : Option ℕ) (x : ℕ) → o ≡ Some x → MatchOption o P Q → Q x
some_of P Q o x is m = subst (λ (o' : Option ℕ). MatchOption o' P Q) is m

none_of : (P : Type 0) (Q : ℕ → Type 0) (o : Option ℕ) → o ≡ None → MatchOption o P Q → P
none_of P Q o is m = subst (λ (o' : Option ℕ). MatchOption o' P Q) is m

pub returns-in-Some-clause-read : goal.returns-in-Some-clause-read
returns-in-Some-clause-read g c =
    let m = g.M.Memory.mem c.args.machine.now.memory in
    let before : Input = input_left c.args.machine.now.intake.ended (g.R.GuestIn.ends c.args.reader.now) (g.R.GuestIn.remaining c.args.reader.now) in
    let mid : Input = input_left c.take_byte.new.machine.intake.ended (g.R.GuestIn.ends c.take_byte.new.reader) (g.R.GuestIn.remaining c.take_byte.new.reader) in
    let is : is_latched m 0x1000_0000 ≡ false = ap (λ k. is_latched (g.M.Memory.mem k) 0x1000_0000) (sym c.memory.ensures) ∙ sym c.is_latched.ensures ∙ c.if-is_latched.false in
    let read : HasRead before mid (c.in-Some.byte ∷ []) = some_of (HasRead before mid [] × (c.take_byte.new.machine.intake.ended ≡ true)) (λ byte. HasRead before mid (byte ∷ [])) c.in_ok-byte.field-0 c.in-Some.byte c.in-Some.is c.in_ok-byte.ensures.read in
    let hart = λ (input console : List ℕ). c.answer_load-in-Some.ensures.hart input console
    ∙ ap (λ (h : Hart). with_result c.args.length (hart_of h input console) c.args.load.rd (answered c.args.load c.from.result)) c.in_ok-byte.ensures.hart
    ∙ ap (λ (v : ℕ). with_result c.args.length (hart_of c.args.machine.now.hart input console) c.args.load.rd (answered c.args.load v)) c.from.ensures in (
      c.in-Some.byte ∷ [],
      subst (λ (e : Bool). HasRead before (input_left e (g.R.GuestIn.ends c.take_byte.new.reader) (g.R.GuestIn.remaining c.take_byte.new.reader)) (c.in-Some.byte ∷ [])) (sym c.answer_load-in-Some.ensures.ended) read,
      λ rest console may. data_byte c.args.load c.args.length c.args.machine.now.hart c.answer_load-in-Some.new.self.hart m _ 0x1000_0000 c.in-Some.byte is hart (c.answer_load-in-Some.ensures.memory ∙ c.in_ok-byte.ensures.memory) rest console,
    )

pub returns-in-None-clause-read : goal.returns-in-None-clause-read
returns-in-None-clause-read g c =
    let m = g.M.Memory.mem c.args.machine.now.memory in
    let before : Input = input_left c.args.machine.now.intake.ended (g.R.GuestIn.ends c.args.reader.now) (g.R.GuestIn.remaining c.args.reader.now) in
    let mid : Input = input_left c.take_byte.new.machine.intake.ended (g.R.GuestIn.ends c.take_byte.new.reader) (g.R.GuestIn.remaining c.take_byte.new.reader) in
    let is : is_latched m 0x1000_0000 ≡ false = ap (λ k. is_latched (g.M.Memory.mem k) 0x1000_0000) (sym c.memory.ensures) ∙ sym c.is_latched.ensures ∙ c.if-is_latched.false in
    let read = none_of (HasRead before mid [] × (c.take_byte.new.machine.intake.ended ≡ true)) (λ byte. HasRead before mid (byte ∷ [])) c.in_ok-byte.field-0 c.in-None.is c.in_ok-byte.ensures.read in
    let ended = c.end_data.ensures.ended ∙ c.answer_load-in-None.ensures.ended in
    let hart = λ (input console : List ℕ). ap (λ (h : Hart). hart_of h input console) c.end_data.ensures.hart ∙ c.answer_load-in-None.ensures.hart input console
    ∙ ap (λ (h : Hart). with_result c.args.length (hart_of h input console) c.args.load.rd (answered c.args.load 0)) c.in_ok-byte.ensures.hart in (
      [],
      subst (λ (e : Bool). HasRead before (input_left e (g.R.GuestIn.ends c.take_byte.new.reader) (g.R.GuestIn.remaining c.take_byte.new.reader)) []) (sym ended) read.0,
      λ rest console may. data_none c.args.load c.args.length c.args.machine.now.hart c.end_data.new.machine.hart m _ 0x1000_0000 is hart
          (c.end_data.ensures.memory ∙ ap (λ k. with_no_data k 0x1000_0000) (c.answer_load-in-None.ensures.memory ∙ c.in_ok-byte.ensures.memory)) rest console
          (nothing_follows _ rest (ended ∙ read.1) may),
    )
