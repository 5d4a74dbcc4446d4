-- The calls of a run add lawful rows.
use Rattle.std.proofs.Common.{List, [], ◌∷◌, map}
use Rattle.std.specs.List.{AllByRecursion}
use Rattle.rules.specs.Runs.{LawfulCall}
use Rattle.runs.specs.Calls.{call_of}
use Rattle.runs.specs.declared.calls.Call.{Call}
use Rattle.runs.specs.declared.calls.Call.TheVariants as call

lawful_one : (c : Call) → LawfulCall (call_of c)
lawful_one (call.Add o) = o.lawful
lawful_one (call.Cut n) = tt
lawful_one (call.Order i j) = tt
lawful_one (call.Class i j) = tt
lawful_one (call.List places) = tt

pub lawful_calls : (calls : List Call) → AllByRecursion LawfulCall (map call_of calls)
lawful_calls [] = tt
lawful_calls (c ∷ calls) = (lawful_one c, lawful_calls calls)
