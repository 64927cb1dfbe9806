-- `property_value::read_pair` is right since the second text is read where the first ends. Assumes nothing.
use Rattle.property_value.proofs.Laws.{pair_bad, pair_next_bad, pair_got}
use Rattle.property_value.proofs.read_pair.Goals as goal

pub returns-in-Err : goal.returns-in-Err
returns-in-Err c = pair_bad (rw c.in-Err.is at c.read_mqtt_string.ensures)

pub returns-in-Err-read_mqtt_string : goal.returns-in-Err-read_mqtt_string
returns-in-Err-read_mqtt_string c =
    pair_next_bad (rw c.in-Ok.is at c.read_mqtt_string.ensures) (rw c.in-Err-read_mqtt_string.is at c.read_mqtt_string-in-Ok.ensures)

pub returns-in-Ok-read_mqtt_string : goal.returns-in-Ok-read_mqtt_string
returns-in-Ok-read_mqtt_string c =
    pair_got (rw c.in-Ok.is at c.read_mqtt_string.ensures) (rw c.in-Ok-read_mqtt_string.is at c.read_mqtt_string-in-Ok.ensures)
