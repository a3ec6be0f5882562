-- The sounder stands as the run says.
use Rattle.std.specs.Prelude.{◌≡◌, ℕ, length}
use Rattle.kinds.specs.Kinds.{KindModel}
use Rattle.sums.specs.Codes.{Codes, Pending}
use Rattle.calls.specs.Runs.{Run, last_mark, phase_after, room_length, latest_record, so_far, pending_after}
use Rattle.sounder.specs.States.{State}

-- over a pair that had the codes c and the pending sums `start`
pub record Stands {S : Type 0} (k : KindModel S) (c : Codes S) (start : Pending S) (s : State S) (h : Run) : Type 0 where
  pub codes_are : s.codes ≡ c
  pub phase_is : s.phase ≡ phase_after (last_mark h)
  pub room_is : s.room ≡ room_length h
  pub count_is : s.count ≡ length (latest_record k h)
  pub sums_are : (i : ℕ) → s.sums i ≡ so_far k c h i
  pub pending_is : s.pending ≡ pending_after k c start h
