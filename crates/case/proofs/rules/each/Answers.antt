-- What the test answers decides for item `i`.
use Rattle.std.proofs.Common.{◌≡◌, ◌<◌, ◌+◌, arith, sym, ◌∙◌, Bool, ℕ, Ok, Err}
use Rattle.std.proofs.lemmas.Result.{err_from_is_err_and}
use Rattle.numbers.specs.declared.answer.No.{No}
use Rattle.numbers.specs.law.Question.{first_no, answer, Answer}
use Rattle.numbers.specs.inside.QuestionLaws.{or_else_yes}
use Rattle.numbers.specs.inside.ItemLaws.{rest, rest_on, rest_no}
use Rattle.case.specs.inside.Each.{item_question, EachItem}
use Rattle.case.proofs.rules.each.Goals as goal

module _ (test : ℕ → Bool) (number i n : ℕ) (so_far : first_no (EachItem test number n) ≡ rest (item_question test number) i n)
    (p : i < n) {b : Bool} (e : b ≡ test i) where
  asked : answer b number 0 i ≡ first_no (item_question test number i)
  asked = rw e (sym (or_else_yes _))

  on : {one : Answer} → one ≡ answer b number 0 i → one ≡ Ok tt → first_no (EachItem test number n) ≡ rest (item_question test number) (i + 1) n
  on h y = rest_on (item_question test number) i n so_far p (h ∙ asked) y

  no : {one : Answer} {x : No} → one ≡ answer b number 0 i → one ≡ Err x → Err x ≡ first_no (EachItem test number n)
  no h y = sym (rest_no (item_question test number) i n so_far p (h ∙ asked) y ∙ y)

pub returns-in_err-ask : goal.returns-in_err-ask
returns-in_err-ask g c = λ test t.
    let i = c.loop-i.i in
    let n = c.args.n in
    let l : i < n = omega arith in
    let p = err_from_is_err_and c.from_residual.result c.from_residual.ensures.1 in
    rw (p.1, p.2) (no test c.args.number i n (c.loop-i.invariant test t) l (t i l c.kept.result c.kept.ensures) c.ask.ensures c.in_err-ask.was)

pub loop-i-preserved : goal.loop-i-preserved
loop-i-preserved g c = λ test t.
    let i = c.loop-i.i in
    let n = c.args.n in
    let l : i < n = omega arith in
    on test c.args.number i n (c.loop-i.invariant test t) l (t i l c.kept.result c.kept.ensures) c.ask.ensures c.in_ok-ask.was
