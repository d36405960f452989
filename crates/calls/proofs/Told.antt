-- The numbers of an end: a Result of counts, as the definitions of outcomes have it.
--
--   reply-roomed             the reply of counted terms
--   left_room                a room left by its terms is kept with the reply 0
--   left_stopped             a room left without terms is kept with any other reply
--   told-terms, told-reason  the report of an end, with its reply
--   count f end              the number of an end's value, and 0 where it has none
--   left-kept, left_ok       a room left by the terms of an end's value is kept with the end's reply
--   told-kept                the report of the terms of an end's value, with the end's reply
--   left-roomed, told-roomed the same of counted terms, with their room's reply. That `map` makes such a result, `search rules` proves
use Rattle.std.proofs.Common.{ℕ, ◌≡◌, List, refl, sym, ap, arith, Bool, true, false, Some, None, option_map, Result, Ok, Err}
use Rattle.std.specs.Result.{result_ok, result_map_both}
use lib.Dec.{leb}
use borrow.Author.Tests.{ne_eqb}
use Rattle.algebra.specs.Residues.{pick}
use Rattle.reasons.specs.Reasons.{number_of, reply_of}
use Rattle.reasons.specs.declared.Reason.{Reason}
use Rattle.reasons.specs.declared.Reason.TheVariants.{NoRoom}
use Rattle.reasons.proofs.Laws.{number_positive}
use Rattle.poly.specs.Words.{records, cleared}
use Rattle.refusals.specs.Reports.{done, refusal}
use Rattle.calls.specs.Outcomes.{told, room_reply}
use Rattle.calls.specs.Endings.{kept, left, roomed, told_of}

pub reply-roomed : (n : ℕ) (room : List ℕ) → reply_of (roomed n room) ≡ room_reply n room
reply-roomed n room = go (leb n (records room))
  where
    go : (b : Bool) → reply_of (pick {A = Result ℕ Reason} b (Ok n) (Err NoRoom)) ≡ pick b 0 10
    go true = refl
    go false = refl

pub left_room : (n : ℕ) (s : List ℕ) → left (Some n) s ≡ kept 0 n s
left_room n s = refl

pub left_stopped : (reason : Reason) (n : ℕ) (s : List ℕ) → left None s ≡ kept (number_of reason) n s
left_stopped reason n s =
    ap (λ (b : Bool). pick b (left (Some n) s) (cleared s)) (sym (ne_eqb _ _ (λ e. omega (arith, number_positive reason))))

pub told-terms : (n m : ℕ) → told_of (Ok (n, m)) ≡ told 0 n m
told-terms n m = refl

pub told-reason : (reason : Reason) (n m : ℕ) → told_of (Err reason) ≡ told (number_of reason) n m
told-reason reason n m =
    ap (λ (b : Bool). pick b (done n m) (refusal (number_of reason) 0 0)) (sym (ne_eqb _ _ (λ e. omega (arith, number_positive reason))))

-- An end with a value of which f and g count the terms

abbrev pub count : {A : Type 0} → (A → ℕ) → Result A Reason → ℕ
count f (Ok v) = f v
count f (Err reason) = 0

module _ {A : Type 0} where
  pub left-kept : (f : A → ℕ) (end : Result A Reason) (s : List ℕ) → left (option_map f (result_ok end)) s ≡ kept (reply_of end) (count f end) s
  left-kept f (Ok v) s = refl
  left-kept f (Err reason) s = left_stopped reason 0 s

  pub told-kept : (f g : A → ℕ) (end : Result A Reason) →
      told_of (result_map_both (λ v. (f v, g v)) (λ reason. reason) end) ≡ told (reply_of end) (count f end) (count g end)
  told-kept f g (Ok v) = refl
  told-kept f g (Err reason) = told-reason reason 0 0

pub left_ok : (end : Result ℕ Reason) (s : List ℕ) → left (result_ok end) s ≡ kept (reply_of end) (count (λ n. n) end) s
left_ok (Ok n) s = refl
left_ok (Err reason) s = left_stopped reason 0 s

module _ (n : ℕ) (room : List ℕ) where
  abbrev picked : Bool → Result ℕ Reason
  picked b = pick b (Ok n) (Err NoRoom)

  pub left-roomed : (s : List ℕ) → left (result_ok (roomed n room)) s ≡ kept (room_reply n room) n s
  left-roomed s = go (leb n (records room))
    where
      go : (b : Bool) → left (result_ok (picked b)) s ≡ kept (pick b 0 10) n s
      go true = refl
      go false = refl

  pub told-roomed : (f g : ℕ → ℕ) → told_of (result_map_both (λ v. (f v, g v)) (λ reason. reason) (roomed n room)) ≡ told (room_reply n room) (f n) (g n)
  told-roomed f g = go (leb n (records room))
    where
      go : (b : Bool) → told_of (result_map_both (λ v. (f v, g v)) (λ reason. reason) (picked b)) ≡ told (pick b 0 10) (f n) (g n)
      go true = refl
      go false = refl
