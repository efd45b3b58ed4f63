-- What a search keeps.
use Rattle.std.specs.Prelude.{◌≡◌, ℕ, ◌<◌, length, All}
use Rattle.vod_components.specs.declared.search.Search.{Search}

-- a search of n nodes knows of each, and goes to no other
pub record IsSearch (n : ℕ) (s : Search) : Type 0 where
  pub found : length s.found.items ≡ n
  pub trees : length s.trees.items ≡ n
  pub followed : length s.followed.items ≡ n
  pub path : All (λ p. p < n) s.path.items
  pub left : All (λ p. p < n) s.left.items
