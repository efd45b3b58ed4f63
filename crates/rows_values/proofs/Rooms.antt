-- What is evaluated one by one takes the room of the most, which is no more than what is kept one after the other takes.
use Rattle.std.proofs.Common.{ℕ, ◌≤◌, List, [], ◌∷◌, arith}
use Rattle.vod_eval.specs.Room.{most, staged}

pub most_below : (ns : List ℕ) → most ns ≤ staged ns
most_below [] = omega arith
most_below (n ∷ ns) = let more : most ns ≤ staged ns = most_below ns in omega arith
