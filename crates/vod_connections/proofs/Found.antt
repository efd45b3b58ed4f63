-- What a table shows of a name is what the first module of that name shows.
use Rattle.std.proofs.Common.{◌≡◌, ℕ, suc, Bool, true, false, if◌then◌else◌, Option, None, Some, List, [], ◌∷◌, map, bytes_eq, refl, ◌∙◌, ap}
use Rattle.std.specs.Option.{option_map}
use Rattle.vod_tree.specs.declared.module.Module.{Module}
use Rattle.vod_names.specs.Entries.{Named, number_of}
use Rattle.vod_connections.specs.declared.interface.Interface.{Interface}
use Rattle.vod_connections.specs.Interfaces.{module_named, interface_of, interface_named, module_name, interface_at, found}

first : (same : Bool) (m : Module) (list : List Interface) (o : Option ℕ) (more : Option Module) → interface_at list o ≡ option_map interface_of more
    → interface_at (interface_of m ∷ list) (if same then Some 0 else option_map suc o) ≡ option_map interface_of (if same then Some m else more)
first true m list o more h = refl
first false m list None more h = h
first false m list (Some k) more h = h

found_at : (ms : List Module) (name : List ℕ) → found (map module_name ms) (map interface_of ms) name ≡ interface_named ms name
found_at [] name = refl
found_at (m ∷ ms) name = first (bytes_eq name m.name.name) m (map interface_of ms) (number_of name (map module_name ms)) (module_named ms name) (found_at ms name)

pub found_is : (names : List Named) (list : List Interface) (ms : List Module) → names ≡ map module_name ms → list ≡ map interface_of ms → found names list ≡ interface_named ms
found_is names list ms n l =
    let h : (name : List ℕ) → found names list name ≡ interface_named ms name =
    λ name. ap (λ ds. found ds list name) n ∙ ap (λ is. found (map module_name ms) is name) l ∙ found_at ms name in
    λ j name. h name j
