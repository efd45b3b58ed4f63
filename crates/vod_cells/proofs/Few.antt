-- A design has few memories.
use Rattle.std.proofs.Common.{◌≡◌, ◌<◌, ◌≤◌, ◌^◌, List, [], ◌∷◌, length, arith, All}
use Rattle.std.proofs.lemmas.List.Elements.{All-head, All-tail}
use Rattle.vod_design.specs.declared.parts.Ram.{Ram}
use Rattle.vod_design.specs.Flat.{IsFlat, MemoryFits}
use Rattle.vod_design.specs.Netlist.{Netlist, words_in}

some_words : (d : Netlist) (ms : List Ram) → All (MemoryFits d) ms → length ms ≤ words_in ms
some_words d [] h = omega arith
some_words d (m ∷ ms) h =
    let here = All-head (MemoryFits d) m ms h in
    let more = some_words d ms (All-tail (MemoryFits d) m ms h) in
    omega (arith, here.some, more)

pub few_memories : (d : Netlist) (ms : List Ram) → ms ≡ d.memories → IsFlat d → length ms < 2 ^ 32
few_memories d ms is h = rw is (let le = some_words d d.memories h.memories in omega (arith, le, h.few_words))
