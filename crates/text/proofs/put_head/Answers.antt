-- `put_head` meets its contract: the first word, then the words, the two numbers and the line end, each put behind the last.
use Prim.Native.Nat.{ℕ}
use mathlib.Core.Path.{◌≡◌, ap}
use mathlib.Core.List.{List, [], ◌∷◌, ◌++◌, append_assoc}
use native.Mathlib.Omega.{arith}
use Rattle.text.specs.Text.{line, decimal, text_cost, text_steps, cost_lines, head_lines}
use Rattle.text.proofs.Digits.{put_digits}
use Rattle.text.proofs.Putting.{put_put, put_behind, put_same}
use Rattle.text.proofs.put_head.Goals as goal
use Rattle.text.proofs.put_head.Goals.{in-Plan, in-Accepted}

-- the line end behind the cost is put with the word behind it
cost-lines : (cost steps : ℕ) → cost_lines cost steps ≡ text_cost ++ (32 ∷ (decimal cost ++ (10 ∷ (text_steps ++ (32 ∷ (decimal steps ++ (10 ∷ [])))))))
unfolding line
cost-lines cost steps = ap (λ (l : List ℕ). text_cost ++ (32 ∷ l)) (append_assoc (decimal cost) (10 ∷ []) (text_steps ++ (32 ∷ (decimal steps ++ (10 ∷ [])))))

pub returns : goal.returns
unfolding line
returns c =
    elim c.match-head.branch [
      | in-Plan w ↦ (put_same _ _ _ _ _ _ (ap (λ h. head_lines h c.args.cost c.args.steps) w.in-Plan.is) (put_behind _ _ _ _ _ _ _ _ _ _ w.out-is w.first-is w.put-first.ensures (put_same _ _ _ _ _ _ (cost-lines _ _) (put_put _ _ _ _ _ _ _ _ c.put-word.ensures (put_put _ _ _ _ _ _ _ _ (put_digits _ _ c.args.cost _ _ _ (omega arith) c.put_number-costed.ensures.0) (put_put _ _ _ _ _ _ _ _ c.put-next.ensures (put_put _ _ _ _ _ _ _ _ (put_digits _ _ c.args.steps _ _ _ (omega arith) c.put_number-end.ensures.0) c.put.ensures)))))), omega arith)
      | in-Accepted w ↦ (put_same _ _ _ _ _ _ (ap (λ h. head_lines h c.args.cost c.args.steps) w.in-Accepted.is) (put_behind _ _ _ _ _ _ _ _ _ _ w.out-is w.first-is w.put-first-in-Accepted.ensures (put_same _ _ _ _ _ _ (cost-lines _ _) (put_put _ _ _ _ _ _ _ _ c.put-word.ensures (put_put _ _ _ _ _ _ _ _ (put_digits _ _ c.args.cost _ _ _ (omega arith) c.put_number-costed.ensures.0) (put_put _ _ _ _ _ _ _ _ c.put-next.ensures (put_put _ _ _ _ _ _ _ _ (put_digits _ _ c.args.steps _ _ _ (omega arith) c.put_number-end.ensures.0) c.put.ensures)))))), omega arith)
    ]
