-- A deck that tells nothing has no outcomes.
use Rattle.std.specs.Prelude.{ℕ, ◌≤◌}
use Rattle.vod_deck.specs.Outcomes.{Outcome}
use Rattle.vod_deck.specs.System.{FileView, untold}

pub untold-counts_now : (deck : FileView) (t : ℕ) (c : Outcome) → t ≤ (untold deck).moment → (untold deck).may_leave c → (untold deck).left_since t c
untold-counts_now deck t c le now = absurd now

pub untold-only_now : (deck : FileView) (c : Outcome) → (untold deck).left_since (untold deck).moment c → (untold deck).may_leave c
untold-only_now deck c left = absurd left
