-- Keys, by which the terms of several slices are met from the greatest monomial down.
--
--   key_at s i       the key of record i: its monomial word + 1; 0 behind the last record
--   head_at s i k    what a slice, read up to record i, has at the key k: the coefficient and the place behind it where record i has this
--                   key, else the coefficient 0 and the same place
use Rattle.std.specs.Prelude.{ℕ, ◌+◌, List, eqb, ltb}
use Rattle.algebra.specs.Residues.{pick}
use Rattle.poly.specs.Words.{records, word_at, coef_at}
use Rattle.poly.specs.declared.keys.Head.{Head}

abbrev pub key_at : List ℕ → ℕ → ℕ
key_at s i = pick (ltb i (records s)) (word_at s i + 1) 0

abbrev pub head_at : List ℕ → ℕ → ℕ → Head
head_at s i k = pick (eqb (key_at s i) k) (record { coef = coef_at s i; next = i + 1 }) (record { coef = 0; next = i })
