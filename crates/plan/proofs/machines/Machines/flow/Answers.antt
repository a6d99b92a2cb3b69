-- The set is read back as it is, and the closure's part of a machine is the law's.
use Rattle.plan.proofs.Common.{rules, to_z-of_z, w64, to_z, of_z, ◌≡◌}
use Rattle.case.specs.declared.records.Machine.{Machine}
use Rattle.plan.specs.law.Machines.{machine_flow, flow_part}
use Rattle.plan.proofs.SignedReads.{as_told}
use Rattle.plan.proofs.machines.Machines.flow.Goals as goal

pub returns : goal.returns
unfolding machine_flow flow_part
returns c =
    let e : to_z w64 (of_z w64 c.args.self.now.set) ≡ c.args.self.now.set = search (rules, to_z-of_z) in
    as_told c.machine_sum.type_inv
    (rw e at (c.machine_sum.ensures (λ (x : Machine). x.flow) (λ m l r e. search rules)))
