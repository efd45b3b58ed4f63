-- A design as a value, and the rules that each accepted one keeps.
use Rattle.std.specs.Prelude.{◌≡◌, ◌≢◌, ℕ, ◌<◌, ◌^◌, ◌==◌, ◌||◌, Bool, true, false, not, List, length, map, filter, take, IsTrue, All, AllPairs, Some, slice_get, slice_index_or}
use Rattle.std.specs.List.{list_any}
use Rattle.std.specs.List.Sorted.{IsStrictlyIncreasing}
use Rattle.vod_thin_design.specs.declared.thin.Signal.{Signal}
use Rattle.vod_thin_design.specs.declared.thin.Class.{Class}
use Rattle.vod_thin_design.specs.declared.thin.Class.TheVariants.{Clock, Data}
use Rattle.vod_thin_design.specs.declared.thin.Input.{Input}
use Rattle.vod_thin_design.specs.declared.thin.Driver.{Driver}
use Rattle.vod_thin_design.specs.declared.thin.Block.{Block}
use Rattle.vod_thin_design.specs.declared.thin.Initial.{Initial}
use Rattle.vod_thin_design.specs.declared.thin.Parts.{Parts}
use Rattle.vod_thin_design.specs.Bits.{is_known}
use Rattle.vod_thin_design.specs.Expr.{reads}

-- a module: its name, its signals by declaration, its inputs by the port list, its drivers and blocks by source order,
-- its registers' initial values by declaration
pub record Netlist : Type 0 where
  pub name : List ℕ
  pub signals : List Signal
  pub inputs : List Input
  pub drivers : List Driver
  pub blocks : List Block
  pub initials : List Initial

-- the design of some parts
abbrev pub netlist_of : Parts → Netlist
netlist_of parts = record {
  name = parts.name;
  signals = parts.signals.items;
  inputs = parts.inputs.items;
  drivers = parts.drivers.items;
  blocks = parts.blocks.items;
  initials = parts.initials.items;
}

-- whether a list of numbers has this one
abbrev pub has : List ℕ → ℕ → Bool
has ns n = list_any (λ m. m == n) ns

-- the signals of the inputs, by input number
abbrev pub input_signals : Netlist → List ℕ
input_signals d = map (λ input. input.signal) d.inputs

-- whether a class is that of clocks
abbrev pub is_clock : Class → Bool
is_clock Clock = true
is_clock Data = false

-- the signals of the inputs that are data, and of those that are clocks
abbrev pub data_signals : Netlist → List ℕ
data_signals d = map (λ input. input.signal) (filter (λ input. not (is_clock input.class)) d.inputs)

abbrev pub clock_signals : Netlist → List ℕ
clock_signals d = map (λ input. input.signal) (filter (λ input. is_clock input.class) d.inputs)

-- whether the signal with this number is a register
abbrev pub is_register : Netlist → ℕ → Bool
is_register d s = slice_index_or (map (λ signal. signal.register) d.signals) s false

-- the targets of some drivers
abbrev pub targets : List Driver → List ℕ
targets drivers = map (λ driver. driver.target) drivers

-- the registers of some blocks, and of some initial values
abbrev pub assigned_registers : List Block → List ℕ
assigned_registers blocks = map (λ block. block.register) blocks

abbrev pub initial_registers : List Initial → List ℕ
initial_registers initials = map (λ initial. initial.register) initials

-- whether a signal is an input, a register, or driven by one of these drivers
abbrev pub has_source : Netlist → List Driver → ℕ → Bool
has_source d drivers s = has (input_signals d) s || is_register d s || has (targets drivers) s

-- whether an expression may read a signal: it is a data input, a register, or driven by one of these drivers
abbrev pub is_readable : Netlist → List Driver → ℕ → Bool
is_readable d drivers s = has (data_signals d) s || is_register d s || has (targets drivers) s

-- The rules: each signal is an input, a register, or a net with one driver, and only one of these; no driver reads what a
-- later one, or itself, drives; no expression reads a clock, and each block waits for one; no register is assigned in two
-- blocks, and each has one known initial value; there are fewer than 2^25 of each.
pub record IsAccepted (d : Netlist) : Type 0 where
  pub few_signals : length d.signals < 2 ^ 25
  pub few_drivers : length d.drivers < 2 ^ 25
  pub few_blocks : length d.blocks < 2 ^ 25
  pub inputs_rise : IsStrictlyIncreasing (input_signals d)
  pub inputs_within : All (λ s. s < length d.signals) (input_signals d)
  pub inputs_kept : All (λ s. is_register d s ≡ false) (input_signals d)
  pub targets_within : All (λ s. s < length d.signals) (targets d.drivers)
  pub targets_kept : All (λ s. is_register d s ≡ false) (targets d.drivers)
  pub inputs_undriven : All (λ s. has (input_signals d) s ≡ false) (targets d.drivers)
  pub driven_once : AllPairs (λ s t. s ≢ t) (targets d.drivers)
  pub sourced : (s : ℕ) → s < length d.signals → IsTrue (has_source d d.drivers s)
  pub ranked : (j : ℕ) (driver : Driver) → slice_get d.drivers j ≡ Some driver → All (λ s. IsTrue (is_readable d (take j d.drivers) s)) (reads driver.value)
  pub clocked : All (λ block. IsTrue (has (clock_signals d) block.clock)) d.blocks
  pub block_reads : All (λ block. All (λ s. IsTrue (is_readable d d.drivers s)) (reads block.value)) d.blocks
  pub assigns_registers : All (λ s. IsTrue (is_register d s)) (assigned_registers d.blocks)
  pub assigned_once : AllPairs (λ s t. s ≢ t) (assigned_registers d.blocks)
  pub initials_rise : IsStrictlyIncreasing (initial_registers d.initials)
  pub initial : (s : ℕ) → is_register d s ≡ has (initial_registers d.initials) s
  pub initials_known : All (λ initial. IsTrue (is_known initial.value)) d.initials
