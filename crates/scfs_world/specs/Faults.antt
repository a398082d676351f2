use Rattle.scfs_net.specs.declared.messages.NetFault.{NetFault}
use Rattle.scfs_net.specs.declared.messages.NetFault.TheVariants as net
use Rattle.scfs_world.specs.declared.fault.StepFault.{StepFault}
use Rattle.scfs_world.specs.declared.fault.StepFault.TheVariants as faults

-- a fault of the clouds as one of the world
abbrev pub fault_of : NetFault → StepFault
fault_of net.TooLarge = faults.TooLarge
fault_of net.Memory = faults.Memory
