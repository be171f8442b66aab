use Rattle.std.proofs.Common.{w32, SFits, rules}
use Rattle.std.proofs.lemmas.Int.{to_z-of_z}
use Rattle.flows.proofs.Stopping.{made_ok}
use Rattle.flows.proofs.stops.arc_fault.Goals as goal

pub returns-in_err-or : goal.returns-in_err-or
returns-in_err-or g c =
    let lo : SFits w32 c.args.arc.lo = search rules in
    let hi : SFits w32 c.args.arc.hi = search rules in
    let h = made_ok c.new.result c.args.arc.lo c.args.arc.hi (simp to_z-of_z at c.new.ensures) in
    search rules

pub returns-then-not-in_limits : goal.returns-then-not-in_limits
returns-then-not-in_limits g c =
    let lo : SFits w32 c.args.arc.lo = search rules in
    let hi : SFits w32 c.args.arc.hi = search rules in
    let h = made_ok c.new.result c.args.arc.lo c.args.arc.hi (simp to_z-of_z at c.new.ensures) in
    search rules

pub returns : goal.returns
returns g c =
    let lo : SFits w32 c.args.arc.lo = search rules in
    let hi : SFits w32 c.args.arc.hi = search rules in
    let h = made_ok c.new.result c.args.arc.lo c.args.arc.hi (simp to_z-of_z at c.new.ensures) in
    search rules
