-- What the code keeps of the nodes that a history makes.
use Rattle.report_writing.specs.Reports.{SlotPath}
use Rattle.report_writing.specs.declared.writing.MadeNode.{MadeNode}

-- the slot and the path, wherever its bytes lie
abbrev pub slot_path_of : MadeNode → SlotPath
slot_path_of node = record { slot = node.slot; path = node.path.now }
