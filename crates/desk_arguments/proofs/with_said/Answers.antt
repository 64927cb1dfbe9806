-- `desk_arguments::with_said` is right since each word has its own arm. Assumes nothing.
use Rattle.desk_arguments.proofs.with_said.Goals as goal

pub returns-in-Limit : goal.returns-in-Limit
returns-in-Limit c = rw c.in-Limit.is c.awaiting.ensures

pub returns-in-Topic : goal.returns-in-Topic
returns-in-Topic c = rw c.in-Topic.is c.awaiting-in-Topic.ensures

pub returns-in-Payload : goal.returns-in-Payload
returns-in-Payload c = rw c.in-Payload.is c.awaiting-in-Payload.ensures

pub returns-in-Ascii : goal.returns-in-Ascii
returns-in-Ascii c = rw c.in-Ascii.is c.styled.ensures

pub returns-in-Colour : goal.returns-in-Colour
returns-in-Colour c = rw c.in-Colour.is c.styled-in-Colour.ensures

pub returns-in-Status : goal.returns-in-Status
returns-in-Status c = rw c.in-Status.is

pub returns-in-Unknown : goal.returns-in-Unknown
returns-in-Unknown c = rw c.in-Unknown.is c.as_bad.ensures

pub returns-in-Name : goal.returns-in-Name
returns-in-Name c = rw c.in-Name.is c.with_name.ensures
