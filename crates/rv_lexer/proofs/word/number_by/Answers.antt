-- One digit more, a number past 64 bits, and the end.
use Rattle.std.proofs.Common.{◌≡◌, ◌+◌, ◌*◌, ◌^◌, ◌<◌, ◌≤◌, true, ℕ, None, length, get_or, drop, sym, ◌∙◌, ap, arith}
use Rattle.std.proofs.lemmas.Bool.{lt-ltb}
use Rattle.std.proofs.lemmas.List.{drop_all}
use Rattle.rv_expression_laws.specs.Bytes.{digit, is_digit}
use Rattle.rv_expression_laws.specs.Front.{number_by}
use Rattle.rv_lexer.proofs.NumbersLemmas.{number_on, next_digit, too_large, on_end}
use Rattle.rv_lexer.proofs.word.number_by.Goals.{After-from, In_ok-checked_mul}
use Rattle.rv_lexer.proofs.word.number_by.Goals as goal

module _ (c : After-from) where
  -- the digit that is read
  abbrev value : ℕ
  value = digit (get_or c.args.digits.now c.loop-byte.byte-index 0)

  here : c.loop-byte.byte-index < length c.args.digits.now
  here = omega arith

  product : c.loop-byte.number * c.from.result ≡ c.loop-byte.number * c.args.base
  product = ap (λ b. c.loop-byte.number * b) c.from.ensures

  past : 2 ^ 64 ≤ c.loop-byte.number * c.args.base + value → number_by c.args.base c.args.digits.now ≡ None
  past large = too_large c.args.base c.loop-byte.number c.loop-byte.byte-index c.args.digits.now here c.loop-byte.invariant.0 c.requires large

pub returns-in_err-checked_mul : goal.returns-in_err-checked_mul
returns-in_err-checked_mul c =
    let h = (goal.at.returns-in_err-checked_mul c).After-from in
    let large : 2 ^ 64 ≤ c.loop-byte.number * c.args.base + value h = omega (arith, c.in_err-checked_mul.ensures, product h) in
    c.from_residual.ensures ∙ sym (past h large)

pub returns-in_err-number : goal.returns-in_err-number
returns-in_err-number c =
    let h = (goal.at.returns-in_err-number c).After-from in
    let large : 2 ^ 64 ≤ c.loop-byte.number * c.args.base + value h = omega (arith, product h, c.in_err-number.ensures, c.in_ok-checked_mul.ensures, c.from-in-loop-byte.ensures, c.digit-digit.ensures) in
    c.from_residual-in_err-number.ensures ∙ sym (past h large)

pub loop-byte-preserved : goal.loop-byte-preserved
loop-byte-preserved c =
    let h = (goal.at.loop-byte-preserved c).After-from in
    let low : value h < c.args.base = omega (arith, c.digit-digit.ensures) in
    let good : is_digit c.args.base (get_or c.args.digits.now c.loop-byte.byte-index 0) ≡ true = lt-ltb (value h) c.args.base low in
    let next : c.loop-byte.number * c.args.base + value h ≡ c.in_ok-number.number = omega (arith, product h, c.in_ok-number.ensures, c.in_ok-checked_mul.ensures, c.from-in-loop-byte.ensures, c.digit-digit.ensures) in (
      next_digit c.args.base c.loop-byte.number c.loop-byte.byte-index c.args.digits.now (here h) c.loop-byte.invariant.0 good
          ∙ ap (λ m. number_on c.args.base m (drop (c.loop-byte.byte-index + 1) c.args.digits.now)) next,
      omega (arith, c.in_ok-number.ensures),
    )

pub returns : goal.returns
returns c =
    let base = c.args.base in let n = c.loop-byte.number in let i = c.loop-byte.byte-index in let ds = c.args.digits.now in
    let past : length ds ≤ i = omega arith in
    let fits : n < 2 ^ 64 = omega arith in
    sym (c.loop-byte.invariant.0 ∙ ap (number_on base n) (drop_all i ds past) ∙ on_end base n fits)
