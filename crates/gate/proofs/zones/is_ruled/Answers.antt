-- `gate::zones::is_ruled` meets its contract: nothing is stored, a device acts, or by the zone. Assumes nothing.
use Rattle.gate.proofs.Ruling
use Rattle.gate.proofs.zones.is_ruled.Goals as goal

pub returns-then-not-is_storing : goal.returns-then-not-is_storing
returns-then-not-is_storing c = search Ruling.ruled-enters

pub returns-then-is_by_device : goal.returns-then-is_by_device
returns-then-is_by_device c = search Ruling.ruled-device

pub returns : goal.returns
returns c = search Ruling.ruled_zone
