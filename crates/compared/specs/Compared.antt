-- Reports and arrays compared with what a row of the sheet says: what arrays hold when they are lent, and what has to be in them afterwards.
--
--   same_words, same_report, same_outcome   tests that words, reports and outcomes are the same
--   all_dirt n              n words as they are lent, each of them `dirt`
--   AsLent n ws             the array ws is such n words
--   rest_of number          what follows the terms in an array after a reply: what was lent after 1 to 8, else 0
--   followed ws rest n      the words ws, then one word up to a length of n
--   after says ws n         an array of n words after a call that answers the report says and writes ws
--   said says ws vs n m k   what such a call leaves in all: ws and vs in outputs of n and m words, and a work array of k words
use Rattle.std.specs.Prelude.{ℕ, ◌-◌, ◌≡◌, Bool, true, false, ◌&&◌, List, [], ◌∷◌, ◌++◌, eqb, ltb, replicate, length}
use Rattle.refusals.specs.declared.report.Report.{Report}
use Rattle.calls.specs.Outcomes.{Outcome, outcome}
use Rattle.algebra.specs.Residues.{pick}

-- The same

abbrev pub same_words : List ℕ → List ℕ → Bool
same_words [] [] = true
same_words [] (w ∷ ws) = false
same_words (v ∷ vs) [] = false
same_words (v ∷ vs) (w ∷ ws) = eqb v w && same_words vs ws

abbrev pub same_report : Report → Report → Bool
same_report r s =
    eqb r.number s.number
    && (eqb r.operand s.operand && (eqb r.index s.index && (eqb r.first s.first && eqb r.second s.second)))

abbrev pub same_outcome : Outcome → Outcome → Bool
same_outcome a b =
    same_report a.report b.report
    && (same_words a.first b.first && (same_words a.second b.second && same_words a.work b.work))

-- As they are lent

abbrev pub dirt : ℕ
dirt = 0xdddddddddddddddd

unfoldable pub all_dirt : ℕ → List ℕ
all_dirt n = replicate n dirt

pub record AsLent (n : ℕ) (ws : List ℕ) : Type 0 where
  pub words : ws ≡ all_dirt n
  pub long : n ≡ length ws

-- After a call

abbrev pub rest_of : ℕ → ℕ
rest_of number = pick (ltb 0 number && ltb number 9) dirt 0

abbrev pub followed : List ℕ → ℕ → ℕ → List ℕ
followed ws rest n = ws ++ replicate (n - length ws) rest

abbrev pub after : Report → List ℕ → ℕ → List ℕ
after says ws n = followed ws (rest_of says.number) n

abbrev pub said : Report → List ℕ → List ℕ → ℕ → ℕ → ℕ → Outcome
said says ws vs n m k = outcome says (after says ws n) (after says vs m) (after says [] k)
